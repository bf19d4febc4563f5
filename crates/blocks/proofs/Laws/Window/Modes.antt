-- E12: "Mode 0 becomes always scratch, and mode 1 becomes a part of the plane where the window is inside it." In mode 0 what hv_window names doesn't depend
-- on what the plane's memory holds after the call; both modes have the same number and show the same pixels; and what an order does with scratch. Assumes
-- nothing.
use Rattle.blocks.proofs.Usual.{true, Bool, false, List, [], ◌∷◌, ◌≡◌, ◌∙◌, refl, sym, ap, ℕ, ◌<◌, ℤ, pos, length, row_of, row_from, fill, LentPlane, get_or, arith}
use Rattle.blocks.proofs.Usual.{Asked, area_of, window_of, part_of, scratch_of, before, after, is_planes, window_at, lowest, window_tests, done, or_same, need}
use Rattle.blocks.proofs.Usual.{Setting, size_ok, stride_ok, holds, frame_names_ok, frame_sizes_ok, plane_side}
use Rattle.rows.specs.Places.{paint, fill_in, in_block}
use Rattle.rows.specs.Edge.{endless, edge, around_at}
use Rattle.blocks.specs.Edge.{place_ok}
use Rattle.blocks.specs.WMask.{flags_ok}
use Rattle.blocks.specs.Window.{always_scratch, plane_if_inside, inside, own_plane, fetched, window_side, around_part, WindowAnswer}
use Rattle.blocks.specs.Order.{mode_of, asked_by, plane_of, order_scratch, OrderPutAnswer, OrderPrepAnswer}
use Rattle.blocks.proofs.Laws.Window.Ready.{window_number}
use Rattle.blocks.proofs.Laws.Window.Predict.{named_part, Fetched, window_around}
use Rattle.blocks.specs.declared.window.Part.{Part}
use Rattle.blocks.specs.declared.order.Order.{Order}

-- ---- in mode 0 no window is the plane's own
never_planes : (p : LentPlane) (q : Asked) → q.mode ≡ always_scratch → own_plane p q ≡ false
unfolding is_planes
never_planes p q mode = rw mode refl

module _ (p : LentPlane) (q : Asked) (mode : q.mode ≡ always_scratch) (scratch : List ℕ) {buffer place apart len : ℕ} {scratch' : List ℕ}
    (a : WindowAnswer p q scratch 0 buffer place apart len scratch') where
  -- the part that the call names is scratch's
  pub named_scratch : buffer ≡ 2
  unfolding window_of window_at
  named_scratch =
      let none : lowest (window_tests p q (length scratch)) ≡ 0 = sym (window_number p q (length scratch)) ∙ sym a.0.0 in
      let is : window_of p q (length scratch) ≡ window_at false p.stride (area_of p q) = done _ _ _ none ∙ rw (never_planes p q mode) refl in
      a.0.1 ∙ ap (λ (v : Part). v.buffer) is

  -- so it is the same whatever the plane's memory holds later: the caller may hold it while the decoder reuses the plane
  pub later_same : (later : List ℕ) → named_part buffer place apart len p.plane scratch' ≡ named_part buffer place apart len later scratch'
  unfolding part_of
  later_same later = rw named_scratch refl

  -- it shows the plane as it was in the call
  pub later_around : (later : List ℕ) (i j c d : ℕ) → i < q.w → j < q.h → c < window_side q.kind 1 → d < window_side q.kind 1
      → around_part q.kind (named_part buffer place apart len later scratch') apart i j c d
      ≡ around_at (before q.kind) (plane_of p) q.x q.y i j c d
  later_around later i j c d wi hj kc kd =
      ap (λ (part : List ℕ). around_part q.kind part apart i j c d) (sym (later_same later)) ∙ window_around p q scratch a i j c d wi hj kc kd

  -- and a kernel that is handed it later predicts the block on that plane, by `window_put` and the others of Laws/Window/Predict
  pub later_fetched : (later : List ℕ) → Fetched p q (named_part buffer place apart len later scratch') apart
  later_fetched later =
      record {
        scratch = scratch;
        scratch' = scratch';
        buffer = buffer;
        place = place;
        len = len;
        answer = a;
        is = sym (later_same later);
      }

-- ---- both modes, with rooms of the same length
module _ (p : LentPlane) (kind w h : ℕ) (x y : ℤ) where
  abbrev asks : (mode : ℕ) → Asked
  asks mode = record { kind = kind; w = w; h = h; x = x; y = y; mode = mode }

  module _ (scratch room : List ℕ) (same : length scratch ≡ length room) {r buffer place apart len r' buffer' place' apart' len' : ℕ}
      {scratch' room' : List ℕ} (a : WindowAnswer p (asks always_scratch) scratch r buffer place apart len scratch')
      (b : WindowAnswer p (asks plane_if_inside) room r' buffer' place' apart' len' room') where
    -- are accepted and refused alike
    pub same_number : r ≡ r'
    same_number =
        a.0.0 ∙ window_number p (asks always_scratch) (length scratch)
        ∙ ap (λ (n : ℕ). lowest (window_tests p (asks always_scratch) n)) same
        ∙ sym (window_number p (asks plane_if_inside) (length room)) ∙ sym b.0.0

  -- and show the same pixels around each place of the block
  pub same_pixels : (scratch room : List ℕ) {buffer place apart len buffer' place' apart' len' : ℕ} {scratch' room' : List ℕ}
      → WindowAnswer p (asks always_scratch) scratch 0 buffer place apart len scratch'
      → WindowAnswer p (asks plane_if_inside) room 0 buffer' place' apart' len' room'
      → (i j c d : ℕ) → i < w → j < h → c < window_side kind 1 → d < window_side kind 1
      → around_part kind (named_part buffer place apart len p.plane scratch') apart i j c d
      ≡ around_part kind (named_part buffer' place' apart' len' p.plane room') apart' i j c d
  same_pixels scratch room a b i j c d wi hj kc kd =
      window_around p (asks always_scratch) scratch a i j c d wi hj kc kd ∙ sym (window_around p (asks plane_if_inside) room b i j c d wi hj kc kd)

-- ---- orders: what hv_order_put and hv_order_prep answer for scratch, where the number is 0. A copied or warped block fills it, inside the plane too
abbrev filled_by : LentPlane → Order → List ℕ → List ℕ
filled_by p o scratch =
    let a = area_of p (asked_by o) in
    fill scratch a.ww a.ww a.wh (edge p.plane p.stride a.iw a.ih a.left a.top)

module _ (s : Setting) (named : Bool) (o : Order) (scratch : List ℕ) (stride : ℕ) {scratch' : List ℕ} where
  filled : mode_of o.kind ≡ always_scratch → scratch' ≡ order_scratch 0 s.lent o scratch → scratch' ≡ filled_by s.lent o scratch
  unfolding order_scratch scratch_of fetched or_same
  filled mode e = e ∙ rw (never_planes s.lent (asked_by o) mode) refl

  pub put_fills : mode_of o.kind ≡ always_scratch → (dst : List ℕ) {dst' : List ℕ} → OrderPutAnswer s named o scratch dst stride 0 scratch' dst'
      → scratch' ≡ filled_by s.lent o scratch
  put_fills mode dst a = filled mode a.1

  pub prep_fills : mode_of o.kind ≡ always_scratch → (tmp : List ℤ) {tmp' : List ℤ} → OrderPrepAnswer s named o scratch tmp stride 0 scratch' tmp'
      → scratch' ≡ filled_by s.lent o scratch
  prep_fills mode tmp a = filled mode a.1

  -- an 8-tap or bilinear block leaves it as it was where its window is inside, as before the request
  module _ (mode : mode_of o.kind ≡ plane_if_inside) (across : let a = area_of s.lent (asked_by o) in inside a.left a.ww a.iw ≡ true)
      (down : let a = area_of s.lent (asked_by o) in inside a.top a.wh a.ih ≡ true) where
    kept : scratch' ≡ order_scratch 0 s.lent o scratch → scratch' ≡ scratch
    unfolding order_scratch scratch_of fetched or_same is_planes
    kept e = e ∙ rw (mode, across, down) refl

    pub put_spares : (dst : List ℕ) {dst' : List ℕ} → OrderPutAnswer s named o scratch dst stride 0 scratch' dst' → scratch' ≡ scratch
    put_spares dst a = kept a.1

    pub prep_spares : (tmp : List ℤ) {tmp' : List ℤ} → OrderPrepAnswer s named o scratch tmp stride 0 scratch' tmp' → scratch' ≡ scratch
    prep_spares tmp a = kept a.1

-- ---- the premises at work: a copied block of 2 x 2 in the middle of a plane of twelve different pixels, which the decoder then overwrites
abbrev small : LentPlane
small =
    record {
      frame = record { luma_w = 4; luma_h = 3; ss_hor = false; ss_ver = false };
      plane_no = 0;
      plane = 11 ∷ 12 ∷ 13 ∷ 14 ∷ 21 ∷ 22 ∷ 23 ∷ 24 ∷ 31 ∷ 32 ∷ 33 ∷ 34 ∷ [];
      stride = 4;
    }

abbrev square : (mode : ℕ) → Asked
square mode = record { kind = 0; w = 2; h = 2; x = pos 1; y = pos 1; mode = mode }

abbrev zeros : ℕ → List ℕ
zeros n = row_of n (λ t. 0)

abbrev four : List ℕ
four = 22 ∷ 23 ∷ 32 ∷ 33 ∷ []

-- in mode 0 it is in scratch
in_scratch : WindowAnswer small (square always_scratch) (zeros 4) 0 2 0 2 4 four
unfolding window_of window_at fetched scratch_of is_planes inside or_same need size_ok stride_ok holds place_ok flags_ok plane_side frame_sizes_ok frame_names_ok
    before after fill fill_in paint in_block row_of row_from edge endless
in_scratch = ((refl, refl, refl, refl, refl), refl)

-- and is the block still when the plane is overwritten
pub still : named_part 2 0 2 4 (zeros 12) four ≡ four
unfolding part_of
still = sym (later_same small (square always_scratch) refl (zeros 4) in_scratch (zeros 12))

-- in mode 1 it is the plane's own, from place 5 on
in_plane : WindowAnswer small (square plane_if_inside) (zeros 4) 0 1 5 4 6 (zeros 4)
unfolding window_of window_at fetched scratch_of is_planes inside or_same need size_ok stride_ok holds place_ok flags_ok plane_side frame_sizes_ok frame_names_ok
    before after row_of row_from
in_plane = ((refl, refl, refl, refl, refl), refl)

-- so of mode 1 the law is false: what it names changes with the plane
pub needed : ((later : List ℕ) → named_part 1 5 4 6 small.plane (zeros 4) ≡ named_part 1 5 4 6 later (zeros 4)) → ⊥
unfolding part_of row_of row_from
needed same = let e : ◌≡◌ {A = ℕ} 22 0 = ap (λ (part : List ℕ). get_or part 0 0) (same (zeros 12)) in absurd (omega (arith, e))
