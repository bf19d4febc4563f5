-- put and prep: what number 0 gives to their rows. Assumes nothing.
use Rattle.blocks.proofs.Usual.{true, Bool, ◌≡◌, ℕ, lowest, Rows, Block, rows_met, block_met, all_met}
use Rattle.blocks.specs.inner.Source.{top_down, Stood}
use Rattle.blocks.specs.Copy.{put_tests, prep_tests}
use Rattle.blocks.proofs.Laws.Loops.Stands.{stood_rows}

pub put_ready : {dl ds sl ss w h : ℕ} → lowest (put_tests dl ds sl ss w h) ≡ 0 → Block w h × Rows dl ds w h × Stood sl (top_down 0 ss) w h
put_ready {dl} {ds} {sl} {ss} {w} {h} e =
    let m = all_met (put_tests dl ds sl ss w h) e in
    let t = m.1.1 in (
      block_met w h m.0 m.1.0,
      rows_met dl ds w h t.0 t.1.1.1.0,
      stood_rows (rows_met sl ss w h t.1.0 t.1.1.0),
    )

pub prep_ready : {deep : Bool} {tl ts sl ss w h : ℕ} → lowest (prep_tests deep tl ts sl ss w h) ≡ 0
    → (deep ≡ true) × (Block w h × Rows tl ts w h × Stood sl (top_down 0 ss) w h)
prep_ready {deep} {tl} {ts} {sl} {ss} {w} {h} e =
    let m = all_met (prep_tests deep tl ts sl ss w h) e in
    let t = m.1.1 in
    let u = t.1.1 in (
      u.0,
      (block_met w h m.0 m.1.0, rows_met tl ts w h t.0 u.1.1.0, stood_rows (rows_met sl ss w h t.1.0 u.1.0)),
    )
