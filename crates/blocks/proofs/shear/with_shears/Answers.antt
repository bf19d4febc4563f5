use Rattle.blocks.proofs.Usual.{◌≡◌, ◌∙◌, ap, ℕ, ◌≤◌, ◌<◌, ◌^◌, arith, pos, ℤ, nat_abs, w32, w16, SFits, to_z, of_z, at, back, fit_abs}
use Rattle.rows.specs.Shear.{recip_place, recip_of, shift_of, shear_a, shear_b}
use Rattle.rows.proofs.Laws.Numbers.Signed.{backs}
use Rattle.blocks.specs.Shear.{divisor_of, sheared}
use Rattle.blocks.specs.declared.shear.Divisor.{Divisor}
use Rattle.blocks.proofs.Laws.Warp.Shears.{top-is, div-y, div_shift}
use Rattle.blocks.proofs.shear.with_shears.Goals as goal
use Rattle.blocks.proofs.shear.with_shears.Goals.{After-resolve_divisor_32-r}

-- the entries, and the divisor, once it is resolved
module _ (c : After-resolve_divisor_32-r) where
  abbrev M : ℕ → ℤ
  M i = at c.args.wm.matrix i

  m2 : SFits w32 (M 2)
  m2 = fit_abs w32 (M 2) (omega (arith, c.requires))

  m3 : SFits w32 (M 3)
  m3 = fit_abs w32 (M 3) (omega (arith, c.requires))

  m4 : SFits w32 (M 4)
  m4 = fit_abs w32 (M 4) (omega (arith, c.requires))

  m5 : SFits w32 (M 5)
  m5 = fit_abs w32 (M 5) (omega (arith, c.requires))

  abbrev Y : ℤ
  Y = recip_of c.args.recip.now (nat_abs (M 2))

  abbrev K : ℕ
  K = shift_of (nat_abs (M 2))

  small-y : nat_abs Y < 2 ^ 16
  unfolding recip_of
  small-y = omega (arith, c.type_inv.recip (recip_place (nat_abs (M 2))))

  small-k : (9 ≤ K) × (K ≤ 40)
  unfolding shift_of
  small-k = let p = c.requires.1 in omega (arith, top-is (nat_abs (M 2)) p.least (omega (arith, p)))

  told : c.resolve_divisor_32-r.result ≡ divisor_of (nat_abs (M 2)) c.args.recip.now
  told =
      let abs : c.abs32.result ≡ nat_abs (M 2) = rw (back m2) at c.abs32.ensures in
      rw abs at c.resolve_divisor_32-r.ensures

  y-is : to_z w32 (of_z w32 c.resolve_divisor_32-r.result.y) ≡ Y
  y-is =
      let e : c.resolve_divisor_32-r.result.y ≡ Y = ap (λ (x : Divisor). x.y) told ∙ div-y (nat_abs (M 2)) _ c.requires.1 in
      backs w32 e (fit_abs w32 Y (omega (arith, small-y)))

  k-is : to_z w32 (of_z w32 c.resolve_divisor_32-r.result.shift) ≡ pos K
  k-is =
      let e : c.resolve_divisor_32-r.result.shift ≡ pos K = ap (λ (x : Divisor). x.shift) told ∙ div_shift (nat_abs (M 2)) _ c.requires.1 in
      backs w32 e (omega (arith, small-k))

pub overflow_cast-k : goal.overflow_cast-k
overflow_cast-k c =
    let at = (goal.at.overflow_cast-k c).After-resolve_divisor_32-r in
    rw (k-is at) (tt, omega (arith, small-k at))

pub shear_c-c-requires : goal.shear_c-c-requires
shear_c-c-requires c =
    let at = (goal.at.shear_c-c-requires c).After-resolve_divisor_32-r in
    rw (back (m4 at), y-is at, k-is at) (omega (arith, c.requires, small-y at, small-k at))

pub shear_d-d-requires : goal.shear_d-d-requires
shear_d-d-requires c =
    let at = (goal.at.shear_d-d-requires c).After-resolve_divisor_32-r in
    rw (back (m3 at), back (m4 at), y-is at, k-is at) (omega (arith, c.requires, small-y at, small-k at))

pub returns : goal.returns
unfolding sheared shear_a shear_b
returns c =
    let at = (goal.at.returns c).After-resolve_divisor_32-r in
    let a = c.iclip_wmp-a in let b = c.iclip_wmp-b in
    let cc = c.shear_c-c in let d = c.shear_d-d in
    let sub = c.wrapping_sub32 in
    let fa : SFits w16 a.result = omega arith in let fb : SFits w16 b.result = omega arith in
    let fc : SFits w16 cc.result = omega arith in let fd : SFits w16 d.result = omega arith in
    let fs : SFits w32 sub.result = omega arith in let ff : SFits w32 c.affine_flag-affine.result = omega arith in
    rw (
      back ff,
      c.affine_flag-affine.ensures,
      back fa,
      back fb,
      back fc,
      back fd,
      a.ensures,
      b.ensures,
      cc.ensures,
      d.ensures,
      back fs,
      sub.ensures,
      back (m2 at),
      back (m3 at),
      back (m4 at),
      back (m5 at),
      y-is at,
      k-is at,
    )
