use Rattle.blocks.proofs.Usual.{◌∙◌, arith, length}
use Rattle.rows.proofs.Laws.Filters.Warp.{half_of}
use Rattle.blocks.specs.inner.Ready.{Bilin}
use Rattle.blocks.proofs.Laws.Bilinear.Ready.{across, halves_small}
use Rattle.blocks.proofs.Laws.Bilinear.Rule.{put_copied, put-across, put_downward}
use Rattle.blocks.proofs.Laws.Bilinear.Shown.{bilin_shown}
use Rattle.blocks.proofs.bilinear.put_bilin_rows.Goals as goal
use Rattle.blocks.proofs.bilinear.put_bilin_rows.Goals.{Start}

block : (g : _) (c : Start g) → let a = c.args in
    Bilin (length (g.P.Pixel.values a.dst.now)) a.ds (length (g.P.Pixel.values a.src.now)) a.s a.w a.h a.f a.g
block g c = bilin_shown g.met.P.Pixel.each c.args.dst.now c.args.src.now c.requires.0

pub put_bilin_axis-requires : goal.put_bilin_axis-requires
put_bilin_axis-requires g c = (
  across c.requires.0 _ (omega arith) (omega (arith, c.if-f-ne0)) c.if-g-ne0.false,
  omega (arith, c.bits_of-b.ensures.fits),
  rw c.half_power.ensures.0 (halves_small c.bits_of-b.result (omega (arith, c.bits_of-b.ensures.fits))),
  c.requires.2,
)

pub returns-else-g-ne0 : goal.returns-else-g-ne0
returns-else-g-ne0 g c =
    let a = c.args in let v = g.P.Pixel.values in
    rw (c.half_power.ensures.0, ← half_of c.bits_of-b.result (omega (arith, c.bits_of-b.ensures.fits)), c.bits_of-b.ensures.is)
    at c.put_bilin_axis.ensures
    ∙ put-across a.d.max a.d.bits (v a.src.now) (v a.dst.now) (block g (goal.at.returns-else-g-ne0 g c).Start) (omega (arith, c.if-f-ne0)) c.if-g-ne0.false

pub returns-then-g-ne0-2 : goal.returns-then-g-ne0-2
returns-then-g-ne0-2 g c =
    let a = c.args in let v = g.P.Pixel.values in
    rw (c.column_pairs-by.ensures, c.lower_row-first.ensures) at c.put_bilin_axis-then-g-ne0-2.ensures
    ∙ put_downward a.d.max a.d.bits (v a.src.now) (v a.dst.now) (block g (goal.at.returns-then-g-ne0-2 g c).Start) c.if-f-ne0.false (omega (arith, c.if-g-ne0-2))

pub returns-else-g-ne0-2 : goal.returns-else-g-ne0-2
returns-else-g-ne0-2 g c =
    let a = c.args in let v = g.P.Pixel.values in
    c.put_rows.ensures
    ∙ put_copied a.d.max a.d.bits (v a.src.now) (v a.dst.now) (block g (goal.at.returns-else-g-ne0-2 g c).Start) c.if-f-ne0.false c.if-g-ne0-2.false
