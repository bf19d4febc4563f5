-- A kind's pixel reads no more than its window gives: pictures that agree on a single pixel's window give the same pixel. Assumes nothing.
use Rattle.blocks.proofs.Usual.{List, ◌≡◌, ap, ℕ, arith, ℤ, put_rule, before, after}
use Rattle.rows.specs.Copy.{prep}
use Rattle.rows.proofs.Laws.Cut.Local.{Agree, put8_local, prep8_local, put_bilin_local, prep_bilin_local, warp_put_local, warp_prep_local}
use Rattle.blocks.specs.Subpel.{put8_rule, prep8_rule}
use Rattle.blocks.specs.Window.{window_side}
use Rattle.blocks.specs.Order.{kind_number, prep_rule}
use Rattle.blocks.specs.declared.order.Kind.{Kind}
use Rattle.blocks.specs.declared.order.Kind.TheVariants.{Copy, Subpel, Bilinear, Warp}

module _ (q p : ℕ → ℕ → ℕ) (subpel ext warp : List ℤ) where
  pub put_rule_local : (M B : ℕ) (k : Kind) (w h i j : ℕ) → Agree (window_side (kind_number k) 1) q p
      → put_rule M B subpel ext warp k w h i j q ≡ put_rule M B subpel ext warp k w h i j p
  unfolding put_rule put8_rule before after
  put_rule_local M B Copy w h i j e = e 0 0 (omega arith) (omega arith)
  put_rule_local M B (Subpel m) w h i j e = put8_local q p M B _ _ _ e
  put_rule_local M B (Bilinear m) w h i j e = put_bilin_local q p M B _ _ e
  put_rule_local M B (Warp s) w h i j e = warp_put_local q p M B _ _ _ _ _ _ _ i j e

  pub prep_rule_local : (B P : ℕ) (k : Kind) (w h i j : ℕ) → Agree (window_side (kind_number k) 1) q p
      → prep_rule B P subpel ext warp k w h i j q ≡ prep_rule B P subpel ext warp k w h i j p
  unfolding prep_rule prep8_rule before after
  prep_rule_local B P Copy w h i j e = ap (prep B P) (e 0 0 (omega arith) (omega arith))
  prep_rule_local B P (Subpel m) w h i j e = prep8_local q p B P _ _ _ e
  prep_rule_local B P (Bilinear m) w h i j e = prep_bilin_local q p B P _ _ e
  prep_rule_local B P (Warp s) w h i j e = warp_prep_local q p B P _ _ _ _ _ _ _ i j e
