use Rattle.rows.proofs.Usual.{◌-◌, ◌+◌, ◌*◌, ◌≤◌, arith, pos}
use Rattle.rows.proofs.Laws.Filters.Bilinear.{weighed, bytes_le}
use Rattle.rows.proofs.bilinear.bilin_bytes.Goals as goal
use Rattle.rows.proofs.bilinear.bilin_bytes.Goals.{Start}

small : (c : Start) → (16 - c.args.f) * c.args.a + c.args.f * c.args.b ≤ 4080
small c = bytes_le c.requires.0 c.requires.1 (omega arith)

pub returns : goal.returns
returns c = (weighed c.args.f (pos c.args.a) (pos c.args.b) (omega arith), small c)
