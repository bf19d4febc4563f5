-- What the tests tell where none refuses: what the rows of a kernel rely on. Only inner contracts name this: nobody need believe it. Assumes nothing.
use Rattle.std.specs.Prelude.{ℕ, ◌+◌, ◌-◌, ◌*◌, ◌≤◌, min, ◌^◌, ◌<◌, ◌≡◌, List, ℤ, nat_abs, true}
use Rattle.rows.specs.Numbers.{at, up}
use Rattle.rows.specs.inner.Warp.{RowThere}
use Rattle.rows.specs.Depth.{bits_of, bias_of, max_of}
use Rattle.blocks.specs.Subpel.{on, subpel_ok}
use Rattle.blocks.specs.inner.Source.{Stood}
use Rattle.blocks.specs.inner.Subpel.{filter_of, Held}
use Rattle.blocks.specs.inner.Source.{Stood}
use Rattle.blocks.specs.Window.{window_side}
use Rattle.blocks.specs.Order.{kind_number, kind_size_ok, motion_ok, filters_ok}
use Rattle.blocks.specs.declared.frame.Area.{Area}
use Rattle.blocks.specs.declared.source.Stand.{Stand}
use Rattle.blocks.specs.declared.window.Part.{Part}
use Rattle.blocks.specs.declared.order.Kind.{Kind}
use Rattle.blocks.specs.declared.refuse.DepthNumbers.{DepthNumbers}
use Rattle.blocks.specs.declared.source.Stand.{Stand}
use Rattle.blocks.specs.declared.warp.Shears.{Shears}
use Rattle.blocks.specs.declared.source.Stand.{Stand}
use Rattle.blocks.specs.inner.Source.{Stood}

-- a block of w columns and h rows
pub record Block (w h : ℕ) : Type 0 where
  pub w1 : 1 ≤ w
  pub w64 : w ≤ 64
  pub h1 : 1 ≤ h
  pub h64 : h ≤ 64

-- a buffer of l places with h rows of w at the stride s
pub record Rows (l s w h : ℕ) : Type 0 where
  pub wide : w ≤ s
  pub most : s ≤ 32768
  pub fits : (h - 1) * s + w ≤ l

-- what depends on the depth, as the code carries it
abbrev pub numbers_of : ℕ → DepthNumbers
numbers_of depth = record { bits = bits_of depth; bias = bias_of depth; max = max_of depth }

-- an area whose sides and place are in their ranges: a window begins up to 3 before a position within ±2^30
pub record Ranged (a : Area) : Type 0 where
  pub ww1 : 1 ≤ a.ww
  pub ww128 : a.ww ≤ 128
  pub wh1 : 1 ≤ a.wh
  pub wh128 : a.wh ≤ 128
  pub iw1 : 1 ≤ a.iw
  pub iw14 : a.iw ≤ 16384
  pub ih1 : 1 ≤ a.ih
  pub ih14 : a.ih ≤ 16384
  pub left : nat_abs a.left ≤ 2 ^ 30 + 3
  pub top : nat_abs a.top ≤ 2 ^ 30 + 3

-- such an area into a buffer of dl places, from a plane of pl places whose rows stand as s says
pub record Fetch (a : Area) (dl ds pl : ℕ) (s : Stand) : Type 0 where
  pub area : Ranged a
  pub dst : Rows dl ds a.ww a.wh
  pub wide : a.iw ≤ s.forth + s.back
  pub plane : Stood pl s a.iw a.ih

-- a pass of bilinear rows at the fraction f with R(n): h rows of w at the stride ds into dl places, from rows at the stride ss of sl places, the second
-- number of each place a step on
pub record Pairs (dl ds sl ss step w h f n : ℕ) : Type 0 where
  pub w1 : 1 ≤ w
  pub dst : Rows dl ds w h
  pub src : (h - 1) * ss + (w + step) ≤ sl
  pub f15 : f ≤ 15
  pub n8 : n ≤ 8

-- the same from the rows of a source
pub record PairsIn (dl ds sl : ℕ) (s : Stand) (step w h f n : ℕ) : Type 0 where
  pub w1 : 1 ≤ w
  pub dst : Rows dl ds w h
  pub src : Stood sl s (w + step) h
  pub f15 : f ≤ 15
  pub n8 : n ≤ 8

-- a bilinear block at the fractions f and g: where f isn't 0 a column more is read, where g isn't 0 a row more
pub record Bilin (dl ds sl : ℕ) (s : Stand) (w h f g : ℕ) : Type 0 where
  pub block : Block w h
  pub dst : Rows dl ds w h
  pub src : Stood sl s (w + min f 1) (h + min g 1)
  pub one : min s.forth s.back ≡ 0
  pub f15 : f ≤ 15
  pub g15 : g ≤ 15

-- a pass of warp over its first `rows` rows, by a table of n filters that has all of theirs
pub record Pass (n : ℕ) (m a b : ℤ) (rows : ℕ) : Type 0 where
  pub bounded : nat_abs m ≤ 2 ^ 20
  pub there : (r : ℕ) → r < rows → RowThere n m a b r

-- a source of sl places that holds warp's block with its margins
pub record Margins (sl : ℕ) (s : Stand) : Type 0 where
  pub forth : s.forth ≤ 32768
  pub back : s.back ≤ 32768
  pub before : 3 * s.forth + 11 * s.back + 3 ≤ s.off
  pub after : s.off + 11 * s.forth + 3 * s.back + 11 < sl
  pub one : min s.forth s.back ≡ 0

-- a block of warp: what is written and read, and its two passes
pub record Warps (dl ds sl : ℕ) (s : Stand) (n : ℕ) (m : Shears) : Type 0 where
  pub dst : Rows dl ds 8 8
  pub src : Margins sl s
  pub first : Pass n m.mx m.a m.b 15
  pub second : Pass n m.my m.c m.d 8

-- a divisor, and a table of reciprocals that has its place
pub record Divides (d rl : ℕ) : Type 0 where
  pub least : 1 ≤ d
  pub most : d ≤ 2 ^ 31 - 1
  pub held : rl ≡ 129

-- a matrix whose entries 2 to 5 are within ±2^22
pub record Entries (m : List ℤ) : Type 0 where
  pub second : nat_abs (at m 2) ≤ 2 ^ 22
  pub third : nat_abs (at m 3) ≤ 2 ^ 22
  pub fourth : nat_abs (at m 4) ≤ 2 ^ 22
  pub fifth : nat_abs (at m 5) ≤ 2 ^ 22

-- a block's size, motion and place, in fours
pub record Moves (bw4 bh4 mvx mvy bx4 by4 : ℤ) : Type 0 where
  pub width : nat_abs bw4 ≤ 64
  pub height : nat_abs bh4 ≤ 64
  pub mv_x : nat_abs mvx ≤ 2 ^ 20
  pub mv_y : nat_abs mvy ≤ 2 ^ 20
  pub column : nat_abs bx4 ≤ 16384
  pub row : nat_abs by4 ≤ 16384

-- a depth, as the sums shift by it
pub record DepthRange (depth : ℕ) : Type 0 where
  pub least : 8 ≤ depth
  pub most : depth ≤ 12

-- two blocks of w columns and h rows, in l0 places and in l1 places
pub record Blocks (l0 : ℕ) (s0 : Stand) (l1 : ℕ) (s1 : Stand) (w h : ℕ) : Type 0 where
  pub w68 : w ≤ 68
  pub h1 : 1 ≤ h
  pub h68 : h ≤ 68
  pub first : Stood l0 s0 w h
  pub second : Stood l1 s1 w h

-- two buffers of l0 and l1 places that each hold 8 columns and 8 rows more than a block
pub record Wider (l0 : ℕ) (s0 : Stand) (l1 : ℕ) (s1 : Stand) (w h : ℕ) : Type 0 where
  pub block : Block w h
  pub first : Stood l0 s0 (w + 8) (h + 8)
  pub second : Stood l1 s1 (w + 8) (h + 8)

-- an 8-tap block's source, whose rows stand as s says: the place of each tap is in it, and the filters are in their tables
pub record Taps (sl : ℕ) (s : Stand) (w h : ℕ) (mx my filterType : ℤ) (tl el : ℕ) : Type 0 where
  pub wide : w ≤ s.forth + s.back
  pub forth : s.forth ≤ 32768
  pub back : s.back ≤ 32768
  pub one : 0 < s.back → s.forth ≡ 0
  pub before : 3 * on my * s.forth + (h - 1 + 4 * on my) * s.back + 3 * on mx ≤ s.off
  pub last : s.off + (h - 1 + 4 * on my) * s.forth + 3 * on my * s.back + (w - 1 + 4 * on mx) < sl
  pub across : Held tl el (filter_of filterType (up mx) w)
  pub down : Held tl el (filter_of filterType (up my) h)

-- a depth and its bits, as the weights of w_mask take them
pub record Depths (depth bits : ℕ) : Type 0 where
  pub deep : DepthRange depth
  pub bits2 : 2 ≤ bits
  pub bits4 : bits ≤ 4

-- w_mask's intermediates, two without gaps, and a mask of mh rows of mw
pub record Weighing (l1 l2 w h ml ms mw mh : ℕ) : Type 0 where
  pub block : Block w h
  pub tmp1 : Rows l1 w w h
  pub tmp2 : Rows l2 w w h
  pub mw1 : 1 ≤ mw
  pub mask : Rows ml ms mw mh

-- h rows of w into a buffer of dl places, from rows that stand as s says, with the seven places after each, a step apart
pub record Lines (dl ds sl : ℕ) (s : Stand) (step w h : ℕ) : Type 0 where
  pub w1 : 1 ≤ w
  pub dst : Rows dl ds w h
  pub src : Stood sl s (w + 7 * step) h

-- a block of a kind, from a source that begins at its window's first pixel: the window's rows at the stride s in sl places; its numbers, and its filters in
-- tables of tl, el and wl numbers
pub record Windowed (k : Kind) (sl s w h tl el wl : ℕ) : Type 0 where
  pub block : Block w h
  pub size : kind_size_ok k w h ≡ true
  pub src : Rows sl s (window_side (kind_number k) w) (window_side (kind_number k) h)
  pub motion : motion_ok k ≡ true
  pub subpel : subpel_ok tl ≡ true
  pub filters : filters_ok k el wl ≡ true

-- a part whose places its buffer has, of a plane of pl places or of sl places of scratch
pub record PartIn (p : Part) (pl sl : ℕ) : Type 0 where
  pub plane : p.buffer ≡ 1 → p.place + p.len ≤ pl
  pub scratch : p.buffer ≡ 2 → p.place + p.len ≤ sl
