-- A block cut into rectangles, each written by itself. Assumes nothing.
use Rattle.std.specs.Prelude.{ℕ, ◌+◌, ◌-◌, ◌*◌, ◌≤◌, ◌<◌, leb, ltb, Bool, true, false, ◌&&◌, ◌||◌, List, [], ◌∷◌, ◌≡◌}
use Rattle.rows.specs.Places.{lent_from, in_block, fill}

-- w columns and h rows of a block, from its column x and its row y on
pub record Rect : Type 0 where
  pub x : ℕ
  pub y : ℕ
  pub w : ℕ
  pub h : ℕ

-- its places
unfoldable pub has : Rect → ℕ → ℕ → Bool
has r i j = (leb r.x i && leb r.y j) && in_block r.w r.h (i - r.x) (j - r.y)

-- where it begins in a buffer of stride s
abbrev pub begins : ℕ → Rect → ℕ
begins s r = r.y * s + r.x

-- it lies inside a block of w columns and h rows
pub record Inside (w h : ℕ) (r : Rect) : Type 0 where
  pub right : r.x + r.w ≤ w
  pub low : r.y + r.h ≤ h

-- some rectangle has the place
unfoldable pub covered : List Rect → ℕ → ℕ → Bool
covered [] i j = false
covered (r ∷ rs) i j = has r i j || covered rs i j

-- each rectangle has the property
unfoldable pub Each : (Rect → Type 0) → List Rect → Type 0
Each P [] = Unit {0}
Each P (r ∷ rs) = P r × Each P rs

-- "Cut the block into rectangles that cover each pixel once": each lies inside it, and each pixel is in one. (That no pixel is in two isn't asked:
-- the laws hold without it.)
pub record Cut (w h : ℕ) (rs : List Rect) : Type 0 where
  pub inside : Each (Inside w h) rs
  pub covers : (i j : ℕ) → i < w → j < h → covered rs i j ≡ true

-- "each rectangle is on the same side of four pixels as the block in width and in height"
pub record SameSide (w h : ℕ) (r : Rect) : Type 0 where
  pub width : ltb 4 r.w ≡ ltb 4 w
  pub height : ltb 4 r.h ≡ ltb 4 h

module _ {A : Type 0} where
  -- each rectangle r, one after the other as they stand in the list, gets its own picture in its own columns and rows; the buffer is lent from
  -- the rectangle's first place on
  unfoldable pub put_each : ℕ → (Rect → ℕ → ℕ → A) → List Rect → List A → List A
  put_each s picture [] d = d
  put_each s picture (r ∷ rs) d = put_each s picture rs (lent_from (begins s r) (λ l. fill l s r.w r.h (picture r)) d)
