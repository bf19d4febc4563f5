use Rattle.blocks.proofs.Usual.{◌≡◌, refl, rules, up, back}
use Rattle.blocks.specs.inner.Scaled.{scaled_plan}
use Rattle.blocks.proofs.scaled.scaled_plan.Goals as goal

pub returns : goal.returns
unfolding scaled_plan
returns c =
    let m = c.args.m in
    let mx : c.up32-mx.result ≡ up m.mx = search rules in
    let my : c.up32-my.result ≡ up m.my = search rules in
    let dx : c.up32-dx.result ≡ up m.dx = search rules in
    let dy : c.up32-dy.result ≡ up m.dy = search rules in
    rw (mx, my, dx, dy, c.family_of-wide.ensures, c.family_of-high.ensures, back c.ranges.filter_type) refl
