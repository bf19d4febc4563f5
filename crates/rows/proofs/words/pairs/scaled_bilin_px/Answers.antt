use Rattle.rows.proofs.Usual.{◌+◌, ℕ, arith, pos, get_or, w32, w16, SFits, to_z, back}
use Rattle.rows.specs.Bilinear.{R}
use Rattle.rows.proofs.Laws.Numbers.Low.{low16_again}
use Rattle.rows.proofs.Laws.Filters.Bilinear.{Widened, pixel_widened, between_is}
use Rattle.rows.proofs.words.pairs.scaled_bilin_px.Goals as goal
use Rattle.rows.proofs.words.pairs.scaled_bilin_px.Goals.{After-shared_slice_known-1}

pixel : (c : After-shared_slice_known-1) (k : ℕ) → let x = get_or c.args.src.now k 0 in Widened (to_z w32 x) (pos x)
pixel c k = pixel_widened _ (omega (arith, c.shared_slice_known-1.given k))

pub returns : goal.returns
unfolding R
returns c =
    let s = (goal.at.returns c).After-shared_slice_known-1 in
    let a = c.args in
    let fv : SFits w16 c.kept.result = omega arith in
    let e = between_is a.f (pixel s a.c) (pixel s (a.c + 1)) (omega arith) c.bilin_sum.ensures in
    rw (back fv, c.kept.ensures, e.0, c.requires.2) (low16_again _)
