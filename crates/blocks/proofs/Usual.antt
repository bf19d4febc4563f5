-- The names that many proofs of this crate use, from one place: Rattle's, then document 01's, then laws. A proof takes those that it needs by one `use` line.
-- Assumes nothing.
pub use mathlib.Core.Bool.{true, Bool, false, ◌&&◌}
pub use mathlib.Core.List.{List, [], ◌∷◌, ◌++◌}
pub use mathlib.Core.Logic.{inr}
pub use mathlib.Core.Path.{◌≡◌, ◌∙◌, refl, sym, ap, ap₂, subst}
pub use Prim.Native.Nat.{ℕ, ◌≤◌, ◌*◌, ◌+◌, ◌-◌, ◌<◌, ◌^◌, suc, zero, ◌/◌, ◌%◌, min}
pub use native.Mathlib.Nat.{mul-le-mul_right, mul_comm, add-mul}
pub use native.Mathlib.Omega.{arith}
pub use borrow.Author.Rules.{rules}
pub use borrow.Author.Tests.{leb-true, le-leb, le-ltb, lt-leb, eqb-true, lt-ltb, ne_eqb, ltb-true}
pub use lib.Dec.{leb, ltb, eqb}
pub use lib.IntN.{pos, ℤ, negsuc, nat_abs, ◌+ℤ◌, ◌-ℤ◌, ◌*ℤ◌}
pub use lib.ListN.{length, get_or, drop}
pub use lib.Signed.{le_z, mag, lt_z, shr_z}
pub use mir.Syntax.{w32, w16, w64}
pub use mir.Val.{SFits, to_z, of_z}
pub use Rattle.rows.specs.Depth.{bits_of, max_of, bias_of}
pub use Rattle.rows.specs.Numbers.{up, at, clip, minus16, half, dn, px}
unfoldable pub use Rattle.rows.specs.Numbers.{low16}
pub use Rattle.rows.specs.Places.{pixel, span, splice}
unfoldable pub use Rattle.rows.specs.Places.{fill, row_of, around, row_from}
pub use Rattle.blocks.specs.Order.{Setting, Tables}
unfoldable pub use Rattle.blocks.specs.Order.{put_rule, order_dst, kind_size_ok, motion_ok, filters_ok, kind_of}
pub use Rattle.blocks.specs.Refuse.{lowest, Test, ◌asks◌, block_side, stride, size, number, read, written}
unfoldable pub use Rattle.blocks.specs.Refuse.{holds, stride_ok, size_ok, need, or_same, reads, whole_filters}
pub use Rattle.blocks.specs.Window.{LentPlane, window_tests, area_of, Asked, lent_w, lent_h}
unfoldable pub use Rattle.blocks.specs.Window.{before, frame_names_ok, after, window_of, frame_sizes_ok, plane_side, part_of, is_planes, window_at, scratch_of}
unfoldable pub use Rattle.blocks.specs.Window.{row_at}
pub use Rattle.blocks.specs.inner.Ready.{Rows, Block, numbers_of}
pub use Rattle.blocks.specs.inner.Window.{lent_of}
pub use Rattle.rows.proofs.Laws.Blocks.Fill.{and_true, fill_same, fill_in_lem, length-fill}
pub use Rattle.rows.proofs.Laws.Blocks.Places.{by-lt, row_same, row_fits, length-row_of}
pub use Rattle.rows.proofs.Laws.Numbers.Signed.{back, fit, backn, rd, fit_abs, one-part, signed, add_parts, le_yes, eq_of, reading, sub_parts, back32}
pub use Rattle.blocks.proofs.Laws.Calls.Answer.{unique_of, unique}
pub use Rattle.blocks.proofs.Laws.Calls.Ready.{rows_met, block_met}
pub use Rattle.blocks.proofs.Laws.Calls.Refuse.{done, refused, all_met, later, sooner, holds_met, stride_met, size_met}
pub use Rattle.blocks.proofs.Laws.Calls.Told.{told_back}
pub use Rattle.blocks.proofs.Laws.Loops.Rows.{Filled, filled_none, row_in, block-loop, filled_more, Turn, turn, filled_all, filled_span}
