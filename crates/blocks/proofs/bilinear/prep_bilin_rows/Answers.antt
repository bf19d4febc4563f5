use Rattle.blocks.proofs.Usual.{◌≡◌, ◌∙◌, ap, arith, pos, length, w16, to_z, backn}
use Rattle.blocks.specs.inner.Ready.{Bilin}
use Rattle.blocks.proofs.Laws.Bilinear.Rule.{prep_copied, prep-across, prep_downward}
use Rattle.blocks.proofs.Laws.Bilinear.Shown.{bilin_read}
use Rattle.blocks.proofs.bilinear.prep_bilin_rows.Goals as goal
use Rattle.blocks.proofs.bilinear.prep_bilin_rows.Goals.{Start, After-bias_of-p}

block : (g : _) (c : Start g) → let a = c.args in Bilin (length a.tmp.now) a.ts (length (g.P.Pixel.values a.src.now)) a.s a.w a.h a.f a.g
block g c = bilin_read g.met.P.Pixel.each c.args.src.now c.requires.0

-- the bias, as the rows take it
bias : (g : _) (c : After-bias_of-p g) → to_z w16 c.bias_of-p.result ≡ pos c.args.d.bias
bias g c = let p = c.bias_of-p in backn w16 p.result (omega (arith, p.ensures.fits)) ∙ ap pos p.ensures.is

pub returns-else-g-ne0 : goal.returns-else-g-ne0
returns-else-g-ne0 g c =
    let a = c.args in let at = goal.at.returns-else-g-ne0 g c in
    rw (bias g at.After-bias_of-p, c.bits_of-b.ensures.is) at c.prep_bilin_axis.ensures
    ∙ prep-across a.d.bits a.d.bias (g.P.Pixel.values a.src.now) a.tmp.now (block g at.Start) (omega (arith, c.if-f-ne0)) c.if-g-ne0.false

pub returns-then-g-ne0-2 : goal.returns-then-g-ne0-2
returns-then-g-ne0-2 g c =
    let a = c.args in let at = goal.at.returns-then-g-ne0-2 g c in
    rw (c.column_pairs-by.ensures, c.lower_row-first.ensures, bias g at.After-bias_of-p, c.bits_of-b.ensures.is) at c.prep_bilin_axis-then-g-ne0-2.ensures
    ∙ prep_downward a.d.bits a.d.bias (g.P.Pixel.values a.src.now) a.tmp.now (block g at.Start) c.if-f-ne0.false (omega (arith, c.if-g-ne0-2))

pub returns-else-g-ne0-2 : goal.returns-else-g-ne0-2
returns-else-g-ne0-2 g c =
    let a = c.args in
    c.prep_rows.ensures
    ∙ prep_copied a.d.bits a.d.bias (g.P.Pixel.values a.src.now) a.tmp.now (block g (goal.at.returns-else-g-ne0-2 g c).Start) c.if-f-ne0.false c.if-g-ne0-2.false
