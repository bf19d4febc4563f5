-- What each kernel's call leaves that answers 0 on a source that shows the endless plane: the block on that plane. Assumes nothing.
use Rattle.blocks.proofs.Usual.{sym, ℕ, ◌*◌, ◌+◌, ℤ, length, Setting}
use Rattle.blocks.specs.Copy.{PutAnswer, PrepAnswer}
use Rattle.blocks.specs.Subpel.{Put8Answer, Prep8Answer}
use Rattle.blocks.specs.Bilinear.{PutBilinAnswer, PrepBilinAnswer}
use Rattle.blocks.specs.Order.{endless_put, endless_prep}
use Rattle.blocks.specs.declared.subpel.plan.SubpelMotion.{SubpelMotion}
use Rattle.blocks.specs.declared.order.BilinMotion.{BilinMotion}
use Rattle.blocks.specs.declared.order.Kind.{Kind}
use Rattle.blocks.specs.declared.order.Kind.TheVariants.{Copy, Subpel, Bilinear}
use Rattle.blocks.proofs.Laws.Copy.Ready.{put_ready, prep_ready}
use Rattle.blocks.proofs.Laws.Subpel.Ready.{subpel_ready}
use Rattle.blocks.proofs.Laws.Bilinear.Ready.{bilin_ready}
use Rattle.blocks.proofs.Laws.Window.Predict.{block_at, put_on_lem, prep-on, put8-on, prep8-on, put_bilin-on, prep_bilin-on}
use Rattle.blocks.proofs.Laws.Fetch.Calls.{KernelSays, KernelTells}

-- what each says of a call; only 8-tap's source has places before the block's first pixel
abbrev pub put_kernel : KernelSays ℕ
put_kernel src apart w h dst stride r dst' = PutAnswer dst stride src apart w h r dst'

module _ (s : Setting) where
  abbrev pub prep_kernel : KernelSays ℤ
  prep_kernel src apart w h tmp stride r tmp' = PrepAnswer s.deep s.depth tmp stride src apart w h r tmp'

  abbrev pub put8_kernel : SubpelMotion → KernelSays ℕ
  put8_kernel m src apart w h dst stride r dst' =
      Put8Answer s.deep s.depth dst stride src (3 * apart + 3) apart w h m.mx m.my m.filter_type s.tables.subpel s.tables.ext r dst'

  abbrev pub prep8_kernel : SubpelMotion → KernelSays ℤ
  prep8_kernel m src apart w h tmp stride r tmp' =
      Prep8Answer s.deep s.depth tmp stride src (3 * apart + 3) apart w h m.mx m.my m.filter_type s.tables.subpel s.tables.ext r tmp'

  abbrev pub put_bilin_kernel : BilinMotion → KernelSays ℕ
  put_bilin_kernel m src apart w h dst stride r dst' = PutBilinAnswer s.deep s.depth dst stride src apart w h m.mx m.my r dst'

  abbrev pub prep_bilin_kernel : BilinMotion → KernelSays ℤ
  prep_bilin_kernel m src apart w h tmp stride r tmp' = PrepBilinAnswer s.deep s.depth tmp stride src apart w h m.mx m.my r tmp'

  -- the block of a kind on the endless plane
  abbrev pub block_put : Kind → (x y : ℤ) (w h i j : ℕ) → ℕ
  block_put kind x y w h = endless_put s (block_at x y w h kind)

  abbrev pub block_prep : Kind → (x y : ℤ) (w h i j : ℕ) → ℤ
  block_prep kind x y w h = endless_prep s (block_at x y w h kind)

  -- ---- and what it leaves
  pub put_tells : KernelTells put_kernel s.lent Copy (block_put Copy)
  put_tells x y w h src apart dst stride dst' p a =
      let m = put_ready (sym a.0) in
      record { block = m.0; rows = m.1; left = put_on_lem s.depth s.tables x y w h stride p dst a }

  pub prep_tells : KernelTells prep_kernel s.lent Copy (block_prep Copy)
  prep_tells x y w h src apart tmp stride tmp' p a =
      let m = prep_ready (sym a.0) in
      record { block = m.1.0; rows = m.1.1; left = prep-on s.depth s.tables x y w h stride p s.deep tmp a }

  module _ (k : SubpelMotion) where
    pub put8_tells : KernelTells (put8_kernel k) s.lent (Subpel k) (block_put (Subpel k))
    put8_tells x y w h src apart dst stride dst' p a =
        let m = subpel_ready s.deep (length dst) stride (length src) (3 * apart + 3) apart w h k.mx k.my k.filter_type
        (length s.tables.subpel) (length s.tables.ext) (sym a.0) in
        record { block = m.1; rows = m.2; left = put8-on s.depth s.tables x y w h stride k p s.deep dst a }

    pub prep8_tells : KernelTells (prep8_kernel k) s.lent (Subpel k) (block_prep (Subpel k))
    prep8_tells x y w h src apart tmp stride tmp' p a =
        let m = subpel_ready s.deep (length tmp) stride (length src) (3 * apart + 3) apart w h k.mx k.my k.filter_type
        (length s.tables.subpel) (length s.tables.ext) (sym a.0) in
        record { block = m.1; rows = m.2; left = prep8-on s.depth s.tables x y w h stride k p s.deep tmp a }

  module _ (k : BilinMotion) where
    pub put-bilin_tells : KernelTells (put_bilin_kernel k) s.lent (Bilinear k) (block_put (Bilinear k))
    put-bilin_tells x y w h src apart dst stride dst' p a =
        let m = bilin_ready k.mx k.my (sym a.0) in
        record { block = m.1.block; rows = m.1.dst; left = put_bilin-on s.depth s.tables x y w h stride k p s.deep dst a }

    pub prep-bilin_tells : KernelTells (prep_bilin_kernel k) s.lent (Bilinear k) (block_prep (Bilinear k))
    prep-bilin_tells x y w h src apart tmp stride tmp' p a =
        let m = bilin_ready k.mx k.my (sym a.0) in
        record { block = m.1.block; rows = m.1.dst; left = prep_bilin-on s.depth s.tables x y w h stride k p s.deep tmp a }
