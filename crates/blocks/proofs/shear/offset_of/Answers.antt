use Rattle.blocks.proofs.Usual.{◌≤◌, ◌^◌, arith, pos, ℤ, nat_abs, ◌-ℤ◌, ◌*ℤ◌, w32, w64, SFits, back, fit_abs, back32}
use Rattle.rows.specs.Shear.{offset_of}
use Rattle.rows.proofs.Laws.Numbers.Signed.{abs-sub, abs-mul-le}
use Rattle.blocks.proofs.shear.offset_of.Goals as goal
use Rattle.blocks.proofs.shear.offset_of.Goals.{Start}

-- Every step is below 2^42.
module _ (c : Start) where
  abbrev A : ℤ
  A = pos 8192 *ℤ c.args.mv

  abbrev B : ℤ
  B = c.args.x *ℤ c.args.p

  abbrev C : ℤ
  C = A -ℤ B

  abbrev D : ℤ
  D = c.args.y *ℤ c.args.q

  abbrev E : ℤ
  E = C -ℤ D

  la : nat_abs A ≤ 2 ^ 33
  la = abs-mul-le (pos 8192) c.args.mv 8192 (2 ^ 20) (omega arith) (omega arith)

  lb : nat_abs B ≤ 2 ^ 40
  lb = abs-mul-le c.args.x c.args.p (2 ^ 17) (2 ^ 23) (omega arith) (omega arith)

  ld : nat_abs D ≤ 2 ^ 40
  ld = abs-mul-le c.args.y c.args.q (2 ^ 17) (2 ^ 23) (omega arith) (omega arith)

  a : SFits w64 A
  a = fit_abs w64 A (omega (arith, la))

  b : SFits w64 B
  b = fit_abs w64 B (omega (arith, lb))

  s : SFits w64 C
  s = fit_abs w64 C (omega (arith, la, lb, abs-sub A B))

  d : SFits w64 D
  d = fit_abs w64 D (omega (arith, ld))

  e : SFits w64 E
  e = fit_abs w64 E (omega (arith, la, lb, ld, abs-sub A B, abs-sub C D))

pub overflow_sub-mv : goal.overflow_sub-mv
overflow_sub-mv c = simp (back32 c.ranges.mv, back32 c.ranges.x, back32 c.ranges.p, back (a c), back (b c)) (s c)

pub overflow_sub-mv-2 : goal.overflow_sub-mv-2
overflow_sub-mv-2 c =
    let f = c.ranges in
    simp (back32 f.mv, back32 f.x, back32 f.p, back32 f.y, back32 f.q, back (a c), back (b c), back (s c), back (d c)) (e c)

pub returns : goal.returns
unfolding offset_of
returns c =
    let t = (goal.at.returns c).Start in
    let f = c.ranges in
    let r : SFits w32 c.clip_entry.result = omega arith in
    rw (
      back r,
      c.clip_entry.ensures,
      back32 f.mv,
      back32 f.x,
      back32 f.p,
      back32 f.y,
      back32 f.q,
      back (a t),
      back (b t),
      back (s t),
      back (d t),
      back (e t),
    )
