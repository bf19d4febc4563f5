-- The refusals: reasons with their numbers, and the tests that the entries share. Assumes nothing.
use Rattle.std.specs.Prelude.{ℕ, zero, suc, ◌+◌, ◌-◌, ◌*◌, ◌%◌, ltb, leb, eqb, Bool, true, false, ◌&&◌, List, [], ◌∷◌, Result, Ok, Err}
use Rattle.blocks.specs.declared.refuse.Refusal.{Refusal}
use Rattle.blocks.specs.declared.refuse.Refusal.TheVariants.{Size, Stride, Number, Table, Read, Written, Above64, Matrix}

infix 68 ◌asks◌
-- the table's reasons
pub data Reason : Type 0 where
  -- "a size is outside its range; w_mask has odd w with ss_hor, or odd h with ss_ver"
  size : Reason
  -- "a stride is outside its range"
  stride : Reason
  -- "another number is outside its range; ss_ver without ss_hor"
  number : Reason
  -- "a lent table has a wrong length, or a needed filter isn't in it"
  table : Reason
  -- "a buffer that is read doesn't hold every place the rules read"
  read : Reason
  -- "a buffer that is written, scratch included, is too short"
  written : Reason
  -- "blend meets a mask value above 64"
  above64 : Reason
  -- "get_shear_params has matrix[2] at or below 0"
  matrix : Reason

-- and their numbers
abbrev pub number_of : Reason → ℕ
number_of size = 1
number_of stride = 2
number_of number = 3
number_of table = 4
number_of read = 5
number_of written = 6
number_of above64 = 7
number_of matrix = 8

-- and their ranks, by which the tests of an entry stand: so far their numbers
abbrev pub rank_of : Reason → ℕ
rank_of size = 1
rank_of stride = 2
rank_of number = 3
rank_of table = 4
rank_of read = 5
rank_of written = 6
rank_of above64 = 7
rank_of matrix = 8

-- why a call is refused, as the code has it: the table's reason
abbrev pub reason_of : Refusal → Reason
reason_of Size = size
reason_of Stride = stride
reason_of Number = number
reason_of Table = table
reason_of Read = read
reason_of Written = written
reason_of Above64 = above64
reason_of Matrix = matrix

-- "0 is done": the number of an answer
abbrev pub told : Result Unit Refusal → ℕ
told (Ok u) = 0
told (Err why) = number_of (reason_of why)

-- what a call must meet, and the reason to refuse it if it doesn't
pub record Test : Type 0 where
  pub reason : Reason
  pub meets : Bool

abbrev pub ◌asks◌ : Reason → Bool → Test
reason asks meets = record { reason = reason; meets = meets }

-- where the test is met, what the later tests say; else the number
unfoldable pub need : Bool → ℕ → ℕ → ℕ
need true n rest = rest
need false n rest = n

-- "The lowest number that applies is given. 0 is done." The first test that isn't met gives it: an entry's tests stand in the order of their
-- ranks (proved of each: Laws/Calls/InOrder), so it is the lowest that applies (Laws/Calls/Lowest)
abbrev pub lowest : List Test → ℕ
lowest [] = 0
lowest (t ∷ ts) = need t.meets (number_of t.reason) (lowest ts)

-- "Every refusal gives zeros for its other results .. and changes no buffer": the new where the number is 0, the old for any other
module _ {A : Type 0} where
  unfoldable pub or_same : ℕ → A → A → A
  or_same zero new old = new
  or_same (suc n) new old = old

-- the tests stand in the order of their ranks, from n on
unfoldable pub in_order : ℕ → List Test → Bool
in_order n [] = true
in_order n (t ∷ ts) = leb n (rank_of t.reason) && in_order (rank_of t.reason) ts

-- ---- the tests that entries share

-- a side of 1 to most
unfoldable pub size_ok : ℕ → ℕ → Bool
size_ok most n = leb 1 n && leb n most

-- "Block w and h are 1 to 64"
abbrev pub block_side : ℕ
block_side = 64

-- "A stride is at least the row it carries .. and at most 32,768"
unfoldable pub stride_ok : ℕ → ℕ → Bool
stride_ok row s = leb row s && leb s 32768

-- "(rows - 1) x stride + row": the places that h rows of w take at the stride s
abbrev pub part_len : (s w h : ℕ) → ℕ
part_len s w h = (h - 1) * s + w

-- "A buffer of rows must hold (rows - 1) x stride + row pixels": l places, h rows of w at the stride s
unfoldable pub holds : (l s w h : ℕ) → Bool
holds l s w h = leb (part_len s w h) l

-- "w x h without gaps"
abbrev pub holds_all : ℕ → ℕ → ℕ → Bool
holds_all l w h = holds l w w h

-- "a filtered source must hold the place of each tap": of a block of w columns and h rows whose first pixel is at place o, from b columns left and
-- c rows above to b' columns right and c' rows below
unfoldable pub reads : (l o s w h : ℕ) → (b b' c c' : ℕ) → Bool
reads l o s w h b b' c c' = leb (c * s + b) o && ltb (o + (h - 1 + c') * s + (w - 1 + b')) l

-- "eight signed bytes to a filter": whole filters
unfoldable pub whole_filters : ℕ → Bool
whole_filters l = eqb (l % 8) 0
