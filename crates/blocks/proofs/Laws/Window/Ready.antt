-- Windows: their margins, their tests in two parts, and what number 0 gives. Assumes nothing.
use Rattle.blocks.proofs.Usual.{true, Bool, false, ◌&&◌, List, [], ◌∷◌, ◌≡◌, ◌∙◌, refl, sym, ap, ℕ, ◌≤◌, ◌*◌, ◌+◌, ◌^◌, suc, zero, arith, leb-true, leb}
use Rattle.blocks.proofs.Usual.{eqb, pos, ℤ, nat_abs, length, w64, SFits, up, fill, row_of, lowest, Test, ◌asks◌, block_side, stride, size, number, read}
use Rattle.blocks.proofs.Usual.{written, holds, stride_ok, size_ok, or_same, LentPlane, window_tests, area_of, Asked, lent_w, lent_h, before, frame_names_ok}
use Rattle.blocks.proofs.Usual.{after, window_of, frame_sizes_ok, plane_side, is_planes, window_at, scratch_of, and_true, length-row_of, fit_abs, rows_met, done}
use Rattle.blocks.proofs.Usual.{refused, all_met, later, sooner, holds_met, size_met}
use Rattle.rows.specs.Places.{pick}
use Rattle.rows.proofs.Laws.Numbers.Signed.{abs-sub}
use Rattle.blocks.specs.Refuse.{part_len, holds_all}
use Rattle.blocks.specs.Edge.{place_ok}
use Rattle.blocks.specs.inner.Ready.{Fetch}
use Rattle.blocks.specs.inner.Source.{top_down, edge_in}
use Rattle.blocks.proofs.Laws.Loops.Stands.{stood_rows, edges_down}
use Rattle.blocks.specs.Window.{plane_w, plane_h, eight_taps, window_side}
use Rattle.blocks.specs.Window.{window_start, own_plane, no_part, fetched}
use Rattle.blocks.specs.Window.{PartAnswer}
use Rattle.blocks.specs.inner.Window.{area_at, area_fetched}
use Rattle.blocks.proofs.Laws.Calls.Refuse.{Met, met_all}
use Rattle.blocks.proofs.Laws.Edge.Ready.{place_met}
use Rattle.blocks.specs.declared.frame.Area.{Area}
use Rattle.blocks.specs.declared.frame.Frame.{Frame}
use Rattle.blocks.specs.declared.window.Part.{Part}

-- ---- margins
pub margins : (kind : ℕ) → (before kind ≤ 3) × (after kind ≤ 4)
unfolding before after
margins kind = go (eight_taps kind) (eqb kind 2) where
  go : (a b : Bool) → (pick a 3 0 ≤ 3) × (pick a 4 (pick b 1 0) ≤ 4)
  go true b = (omega arith, omega arith)
  go false true = (omega arith, omega arith)
  go false false = (omega arith, omega arith)

-- a window begins up to 3 before its block
pub start_near : (kind : ℕ) (x : ℤ) → nat_abs x ≤ 2 ^ 30 → nat_abs (window_start kind x) ≤ 2 ^ 30 + 3
start_near kind x h = omega (arith, abs-sub x (pos (before kind)), margins kind)

pub start_fits : (kind : ℕ) (x : ℤ) → nat_abs x ≤ 2 ^ 30 → SFits w64 (window_start kind x)
start_fits kind x h = fit_abs w64 (window_start kind x) (omega (arith, start_near kind x h))

-- a plane's side is at most luma's
pub side_le : (plane_no : ℕ) (flag : Bool) (luma : ℕ) → plane_side plane_no flag luma ≤ luma
unfolding plane_side
side_le plane_no flag luma = go (eqb plane_no 1 && flag) (omega arith) where
  go : (b : Bool) {half : ℕ} → half ≤ luma → pick b half luma ≤ luma
  go true h = h
  go false h = omega arith

-- ---- a plane of n places: a function that is handed only the number speaks of each of them
pub plane_of_lem : (n : ℕ) → (plane : List ℕ) × (length plane ≡ n)
plane_of_lem n = (row_of n (λ i. 0), length-row_of n (λ i. 0))

-- ---- the first part of the tests
abbrev pub size_tests : LentPlane → Asked → List Test
size_tests p q =
    size asks frame_sizes_ok p.frame p.plane_no
    ∷ size asks size_ok block_side q.w
    ∷ size asks size_ok block_side q.h
    ∷ stride asks stride_ok (lent_w p) p.stride
    ∷ []

pub sizes_small : (p : LentPlane) (q : Asked) → lowest (size_tests p q) ≡ 0 → (q.w ≤ 64) × (q.h ≤ 64)
sizes_small p q e =
    let (frame, (width, (height, rest))) = all_met (size_tests p q) e in
    ((size_met 64 q.w width).1, (size_met 64 q.h height).1)

-- and the second
abbrev pub other_tests : LentPlane → Asked → (sl : ℕ) → List Test
other_tests p q sl =
    number asks frame_names_ok p.frame p.plane_no
    ∷ number asks leb q.kind 3
    ∷ number asks place_ok q.x
    ∷ number asks place_ok q.y
    ∷ number asks leb q.mode 1
    ∷ read asks holds (length p.plane) p.stride (lent_w p) (lent_h p)
    ∷ written asks holds_all sl (window_side q.kind q.w) (window_side q.kind q.h)
    ∷ []

module _ (p : LentPlane) (q : Asked) (sl : ℕ) where
  pub window_stop : (lowest (size_tests p q) ≡ 0 → ⊥) → lowest (size_tests p q) ≡ lowest (window_tests p q sl)
  window_stop other = sooner (size_tests p q) (lowest (other_tests p q sl)) other

  pub window_go : lowest (size_tests p q) ≡ 0 → lowest (other_tests p q sl) ≡ lowest (window_tests p q sl)
  window_go e = later (size_tests p q) (lowest (other_tests p q sl)) e

-- ---- what number 0 gives
-- each test by its name
pub record WindowMet (p : LentPlane) (q : Asked) (sl : ℕ) : Type 0 where
  pub frame : frame_sizes_ok p.frame p.plane_no ≡ true
  pub width : size_ok block_side q.w ≡ true
  pub height : size_ok block_side q.h ≡ true
  pub carries : stride_ok (lent_w p) p.stride ≡ true
  pub names : frame_names_ok p.frame p.plane_no ≡ true
  pub kind : leb q.kind 3 ≡ true
  pub across : place_ok q.x ≡ true
  pub down : place_ok q.y ≡ true
  pub mode : leb q.mode 1 ≡ true
  pub plane : holds (length p.plane) p.stride (lent_w p) (lent_h p) ≡ true
  pub scratch : holds_all sl (window_side q.kind q.w) (window_side q.kind q.h) ≡ true

pub window_met : (p : LentPlane) (q : Asked) (sl : ℕ) → lowest (window_tests p q sl) ≡ 0 → WindowMet p q sl
window_met p q sl e =
    let (frame, (width, (height, (carries, others)))) = all_met (window_tests p q sl) e in
    let (names, (kind, (across, (down, (mode, (plane, (scratch, none))))))) = others in
    record {
      frame = frame;
      width = width;
      height = height;
      carries = carries;
      names = names;
      kind = kind;
      across = across;
      down = down;
      mode = mode;
      plane = plane;
      scratch = scratch;
    }

-- and it is given where they are met
pub met_window : (p : LentPlane) (q : Asked) (sl : ℕ) → WindowMet p q sl → lowest (window_tests p q sl) ≡ 0
met_window p q sl m =
    let numbers : Met (other_tests p q sl) = (m.names, (m.kind, (m.across, (m.down, (m.mode, (m.plane, (m.scratch, tt))))))) in
    met_all (window_tests p q sl) (m.frame, (m.width, (m.height, (m.carries, numbers))))

pub frame_met : (f : Frame) (plane_no : ℕ) → frame_sizes_ok f plane_no ≡ true
    → (1 ≤ plane_w f plane_no) × (plane_w f plane_no ≤ 16384) × (1 ≤ plane_h f plane_no) × (plane_h f plane_no ≤ 16384)
unfolding frame_sizes_ok
frame_met f plane_no e =
    let p = and_true (size_ok 16384 f.luma_w && size_ok 16384 f.luma_h) _ e in
    let l = and_true (size_ok 16384 f.luma_w) _ p.0 in
    let s = and_true (leb 1 (plane_w f plane_no)) _ p.1 in
    let a = size_met 16384 f.luma_w l.0 in
    let b = size_met 16384 f.luma_h l.1 in (
      leb-true _ _ s.0,
      omega (arith, a, side_le plane_no f.ss_hor f.luma_w),
      leb-true _ _ s.1,
      omega (arith, b, side_le plane_no f.ss_ver f.luma_h),
    )

-- the window is an area of the endless plane that fits in scratch
module _ (p : LentPlane) (q : Asked) (sl : ℕ) (e : lowest (window_tests p q sl) ≡ 0) where
  pub window_small : (q.w ≤ 64) × (q.h ≤ 64) × (nat_abs q.x ≤ 2 ^ 30) × (nat_abs q.y ≤ 2 ^ 30)
  window_small =
      let m = window_met p q sl e in
      ((size_met 64 q.w m.width).1, (size_met 64 q.h m.height).1, place_met q.x m.across, place_met q.y m.down)

  pub window_ready : Fetch (area_of p q) sl (window_side q.kind q.w) (length p.plane) (top_down 0 p.stride)
  window_ready =
      let m = window_met p q sl e in
      let f = frame_met p.frame p.plane_no m.frame in
      let a = size_met 64 q.w m.width in
      let b = size_met 64 q.h m.height in
      let g = margins q.kind in
      let rows = rows_met (length p.plane) p.stride (lent_w p) (lent_h p) m.carries m.plane in
      record {
        area = record {
          ww1 = omega (arith, a);
          ww128 = omega (arith, a, g);
          wh1 = omega (arith, b);
          wh128 = omega (arith, b, g);
          iw1 = f.0;
          iw14 = f.1;
          ih1 = f.2;
          ih14 = f.3;
          left = start_near q.kind q.x window_small.2;
          top = start_near q.kind q.y window_small.3;
        };
        dst = record {
          wide = omega arith;
          most = omega (arith, a, g);
          fits = holds_met sl (window_side q.kind q.w) (window_side q.kind q.w) (window_side q.kind q.h) m.scratch;
        };
        wide = omega (arith, rows);
        plane = stood_rows rows;
      }

-- ---- the answer
-- a refused call names no part
pub no_part_of : {n m : ℕ} {r : Part} (new : Part) → n ≡ m → (n ≡ 0 → ⊥) → r ≡ no_part n → r ≡ or_same m new (no_part m)
no_part_of new e other is = is ∙ rw e (sym (refused _ _ _ (rw e at other)))

-- and the C functions give a part's numbers
pub part-answer : {p q : Part} → p ≡ q → PartAnswer q p.number p.buffer p.place p.stride p.len
part-answer e = rw e (refl, refl, refl, refl, refl)

-- the number of an answer, whether the plane has the window or not
pub answer-number : (n : ℕ) (planes : Bool) (ps : ℕ) (a : Area) → (or_same n (window_at planes ps a) (no_part n)).number ≡ n
unfolding window_at or_same
answer-number zero true ps a = refl
answer-number zero false ps a = refl
answer-number (suc n) planes ps a = refl

module _ (p : LentPlane) (q : Asked) (sl : ℕ) where
  -- it is the tests'
  pub window_number : (window_of p q sl).number ≡ lowest (window_tests p q sl)
  unfolding window_of
  window_number = answer-number (lowest (window_tests p q sl)) (own_plane p q) p.stride (area_of p q)

  -- where they are met, the answer is where the area lies
  pub window_is : lowest (window_tests p q sl) ≡ 0 → area_at (area_of p q) q.mode p.stride ≡ window_of p q sl
  unfolding window_of
  window_is e = sym (done _ _ _ e)

-- ---- an accepted call as the code has it: the area a, the part r and scratch d at the end
pub record Accepted (p : LentPlane) (q : Asked) (sl : ℕ) : Type 0 where
  pub is : lowest (window_tests p q sl) ≡ 0

module _ {p : LentPlane} {q : Asked} {sl : ℕ} (ok : Accepted p q sl) where
  pub accepted_small : (q.w ≤ 64) × (q.h ≤ 64) × (nat_abs q.x ≤ 2 ^ 30) × (nat_abs q.y ≤ 2 ^ 30)
  accepted_small = window_small p q sl ok.is

  module _ {a : Area} (is : a ≡ area_of p q) where
    pub accepted_ready : Fetch a sl a.ww (length p.plane) (top_down 0 p.stride)
    accepted_ready = rw is (window_ready p q sl ok.is)

    pub accepted_part : {r : Part} → r ≡ area_at a q.mode p.stride → r ≡ window_of p q sl
    accepted_part e = e ∙ rw is (window_is p q sl ok.is)

    pub accepted_scratch : (scratch : List ℕ) {r : Part} {d : List ℕ} → r ≡ area_at a q.mode p.stride
        → d ≡ area_fetched a p.plane p.stride q.mode scratch → d ≡ scratch_of r.number p q scratch
    unfolding scratch_of
    accepted_scratch scratch {r} e full =
        let n : r.number ≡ 0 = ap (λ (v : Part). v.number) (accepted_part e) ∙ window_number p q sl ∙ ok.is in
        full ∙ rw is (sym (done _ _ _ n))

-- a refused call leaves scratch as it was
pub scratch_kept : (n : ℕ) (p : LentPlane) (q : Asked) (scratch : List ℕ) → (n ≡ 0 → ⊥) → scratch ≡ scratch_of n p q scratch
unfolding scratch_of
scratch_kept n p q scratch other = sym (refused n _ scratch other)

-- ---- where an area lies, by whether the plane has it
in_scratch : (planes : Bool) (ps : ℕ) (a : Area) → (window_at planes ps a).buffer ≡ 2 → planes ≡ false
unfolding window_at
in_scratch true ps a e = absurd (omega arith)
in_scratch false ps a e = refl

in_plane : (planes : Bool) (ps : ℕ) (a : Area) → ((window_at planes ps a).buffer ≡ 2 → ⊥) → planes ≡ true
unfolding window_at
in_plane true ps a e = refl
in_plane false ps a e = absurd (e refl)

pub own_at : (planes : Bool) (ps : ℕ) (a : Area) {row column size : ℕ} → planes ≡ true → row ≡ up a.top → column ≡ up a.left
    → size ≡ part_len ps a.ww a.wh
    → ◌≡◌ {A = Part} (record { number = 0; buffer = 1; place = row * ps + column; stride = ps; len = size }) (window_at planes ps a)
unfolding window_at
own_at planes ps a e r c l = rw (e, r, c, l) refl

module _ (a : Area) (mode ps : ℕ) {p : Part} (is : p ≡ area_at a mode ps) (plane scratch : List ℕ) where
  -- scratch is filled
  pub area_filled : {d : List ℕ} → p.buffer ≡ 2 → d ≡ fill scratch a.ww a.ww a.wh (edge_in plane (top_down 0 ps) a.iw a.ih a.left a.top)
      → d ≡ area_fetched a plane ps mode scratch
  unfolding fetched
  area_filled two full = let b = in_scratch (is_planes mode a) ps a (rw is at two) in full ∙ rw (b, edges_down plane ps a.iw a.ih a.left a.top) refl

  -- or stays as it was
  pub area_kept : (p.buffer ≡ 2 → ⊥) → scratch ≡ area_fetched a plane ps mode scratch
  unfolding fetched
  area_kept other = let b = in_plane (is_planes mode a) ps a (rw is at other) in rw b refl
