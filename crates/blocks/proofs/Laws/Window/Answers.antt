-- Windows' and rows' answers: each is the only one, and there are calls that are accepted. Assumes nothing.
use Rattle.blocks.proofs.Usual.{true, List, ◌≡◌, ◌∙◌, refl, sym, ap, ℕ, pos, ℤ, row_of, row_from, holds, stride_ok, size_ok, need, or_same, LentPlane, Asked}
use Rattle.blocks.proofs.Usual.{before, frame_names_ok, after, window_of, frame_sizes_ok, plane_side, is_planes, window_at, scratch_of, row_at}
use Rattle.blocks.specs.Edge.{place_ok}
use Rattle.blocks.specs.WMask.{flags_ok}
use Rattle.blocks.specs.Window.{always_scratch, plane_if_inside, inside}
use Rattle.blocks.specs.Window.{PartAnswer, WindowAnswer}
use Rattle.blocks.specs.declared.window.Part.{Part}

-- ---- one answer for each call
part_unique : (p : Part) {r b o s l r' b' o' s' l' : ℕ} → PartAnswer p r b o s l → PartAnswer p r' b' o' s' l'
    → (r ≡ r') × (b ≡ b') × (o ≡ o') × (s ≡ s') × (l ≡ l')
part_unique p u v =
    (u.0 ∙ sym v.0, u.1 ∙ sym v.1, u.2 ∙ sym v.2, u.3 ∙ sym v.3, u.4 ∙ sym v.4)

pub window_unique : (p : LentPlane) (q : Asked) (scratch : List ℕ) {r b o s l r' b' o' s' l' : ℕ} {d d' : List ℕ}
    → WindowAnswer p q scratch r b o s l d → WindowAnswer p q scratch r' b' o' s' l' d'
    → ((r ≡ r') × (b ≡ b') × (o ≡ o') × (s ≡ s') × (l ≡ l')) × (d ≡ d')
window_unique p q scratch u v =
    let part = part_unique _ u.0 v.0 in
    (part, u.1 ∙ ap (λ (n : ℕ). scratch_of n p q scratch) part.0 ∙ sym v.1)

pub row_unique : (p : LentPlane) (row : ℤ) {r b o s l r' b' o' s' l' : ℕ}
    → PartAnswer (row_at p row) r b o s l → PartAnswer (row_at p row) r' b' o' s' l'
    → (r ≡ r') × (b ≡ b') × (o ≡ o') × (s ≡ s') × (l ≡ l')
row_unique p row u v = part_unique (row_at p row) u v

-- ---- calls that are accepted: of a frame of 17 x 9 with chroma halved, whose chroma plane is 9 x 5, at a stride of 10 in 49 places
abbrev lent : LentPlane
lent =
    record {
      frame = record { luma_w = 17; luma_h = 9; ss_hor = true; ss_ver = true };
      plane_no = 1;
      plane = row_of 49 (λ i. i);
      stride = 10;
    }

-- a bilinear block of 3 x 2 at column x of row 2
abbrev bilin_at : (x : ℤ) (mode : ℕ) → Asked
bilin_at x mode = record { kind = 2; w = 3; h = 2; x = x; y = pos 2; mode = mode }

-- at column 5, with its margins, it ends with the plane's columns and rows and is the plane's own
window_own : window_of lent (bilin_at (pos 5) plane_if_inside) 12 ≡ record { number = 0; buffer = 1; place = 25; stride = 10; len = 24 }
unfolding window_of window_at or_same need size_ok stride_ok place_ok holds flags_ok plane_side frame_sizes_ok frame_names_ok before after is_planes inside row_of row_from
window_own = refl

-- in the default mode it is in scratch, and so it is in the other a column further right
window_fetched : window_of lent (bilin_at (pos 5) always_scratch) 12 ≡ record { number = 0; buffer = 2; place = 0; stride = 4; len = 12 }
unfolding window_of window_at or_same need size_ok stride_ok place_ok holds flags_ok plane_side frame_sizes_ok frame_names_ok before after is_planes inside row_of row_from
window_fetched = refl

window_beside : window_of lent (bilin_at (pos 6) plane_if_inside) 12 ≡ record { number = 0; buffer = 2; place = 0; stride = 4; len = 12 }
unfolding window_of window_at or_same need size_ok stride_ok place_ok holds flags_ok plane_side frame_sizes_ok frame_names_ok before after is_planes inside row_of row_from
window_beside = refl

-- with one place of scratch less it is refused
window_short : window_of lent (bilin_at (pos 5) plane_if_inside) 11 ≡ record { number = 6; buffer = 0; place = 0; stride = 0; len = 0 }
unfolding window_of window_at or_same need size_ok stride_ok place_ok holds flags_ok plane_side frame_sizes_ok frame_names_ok before after is_planes inside row_of row_from
window_short = refl

-- the last row, and the one after it
row_last : row_at lent (pos 4) ≡ record { number = 0; buffer = 1; place = 40; stride = 10; len = 9 }
unfolding row_at or_same need stride_ok size_ok holds flags_ok plane_side frame_sizes_ok frame_names_ok row_of row_from
row_last = refl

row-after : row_at lent (pos 5) ≡ record { number = 3; buffer = 0; place = 0; stride = 0; len = 0 }
unfolding row_at or_same need stride_ok size_ok holds flags_ok plane_side frame_sizes_ok frame_names_ok row_of row_from
row-after = refl
