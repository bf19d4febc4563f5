-- The names that many proofs of this crate use, from one place: Rattle's, then document 01's, then laws. A proof takes those that it needs by one `use` line.
-- Assumes nothing.
pub use mathlib.Core.Bool.{true, Bool, false}
pub use mathlib.Core.List.{List}
pub use mathlib.Core.Logic.{⊎_elim, ◌⊎◌}
pub use mathlib.Core.Path.{◌≡◌, ◌∙◌, refl, ap, sym, subst, ap₂}
pub use Prim.Native.Nat.{◌-◌, ◌+◌, ◌*◌, ◌≤◌, ◌<◌, ◌^◌, ℕ, ◌/◌, suc, zero, min, ◌%◌}
pub use native.Mathlib.Nat.{add-zero}
pub use native.Mathlib.Omega.{arith}
pub use borrow.Author.Rules.{rules}
pub use borrow.Author.Tests.{ltb-true}
pub use lib.Dec.{T, ltb}
pub use lib.IntN.{pos, ℤ, ◌+ℤ◌, ◌*ℤ◌, ◌-ℤ◌, nat_abs, negsuc}
pub use lib.ListN.{length, get_or, set}
pub use lib.Seq.{length-take-le}
pub use lib.Signed.{shr_z, mag}
pub use mir.Facts.{sfits_widen}
pub use mir.Syntax.{w32, w16, w8, w64}
pub use mir.Val.{SFits, to_z, of_z}
pub use mir.ValLaws.{to_z-of_z}
pub use Rattle.rows.specs.Numbers.{at, clip, px, up, minus16, dn, mod_z}
unfoldable pub use Rattle.rows.specs.Numbers.{low16, sum_z}
pub use Rattle.rows.specs.Places.{span, splice}
unfoldable pub use Rattle.rows.specs.Places.{row_of}
pub use Rattle.rows.proofs.Laws.Blocks.Places.{by-lt, span-length}
pub use Rattle.rows.proofs.Laws.Blocks.Row.{Upto, upto_all, upto_none, upto_more}
pub use Rattle.rows.proofs.Laws.Numbers.Signed.{back, fit, backn, reading, fit_abs, mag-add, back16, eq_of, rd, one-part, sub_parts, abs_mag, abs-add}
pub use Rattle.rows.proofs.Laws.Numbers.Signed.{mag-mul, add_parts}
pub use Rattle.rows.proofs.Laws.Numbers.Sum.{steps-le, Summed, summed_mag, summed_none, summed_more}
