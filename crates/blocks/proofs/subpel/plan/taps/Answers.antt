use Rattle.blocks.proofs.Usual.{refl, row_of, row_from}
use Rattle.blocks.specs.inner.Subpel.{axis_of, taps_of}
use Rattle.blocks.proofs.subpel.plan.taps.Goals as goal

pub returns-in-Off : goal.returns-in-Off
unfolding taps_of axis_of row_of row_from
returns-in-Off c = rw c.in-Off.is refl

pub returns-in-Ext : goal.returns-in-Ext
unfolding taps_of axis_of
returns-in-Ext c = rw c.in-Ext.is c.eight.ensures

pub returns-in-Subpel : goal.returns-in-Subpel
unfolding taps_of axis_of
returns-in-Subpel c = rw c.in-Subpel.is c.eight-in-Subpel.ensures
