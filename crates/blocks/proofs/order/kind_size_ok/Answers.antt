use Rattle.blocks.proofs.Usual.{refl, kind_size_ok}
use Rattle.blocks.proofs.order.kind_size_ok.Goals as goal

pub returns-in-Copy : goal.returns-in-Copy
unfolding kind_size_ok
returns-in-Copy c = rw c.in-Copy.is refl

pub returns-in-Subpel : goal.returns-in-Subpel
unfolding kind_size_ok
returns-in-Subpel c = rw c.in-Subpel.is refl

pub returns-in-Bilinear : goal.returns-in-Bilinear
unfolding kind_size_ok
returns-in-Bilinear c = rw c.in-Bilinear.is refl

pub returns-in-Warp : goal.returns-in-Warp
unfolding kind_size_ok
returns-in-Warp c = rw c.in-Warp.is refl
