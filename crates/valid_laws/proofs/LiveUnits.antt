-- The units that are live at the starts of blocks in physical form.
use Rattle.std.proofs.Common.{◌≡◌, ◌⊎◌, ◌↔◌, ◌++◌, ℕ, Bool, true, false, cond, List, [], ◌∷◌, Option, Some, None, map, inl, inr, refl, sym, ap, ◌∙◌, subst}
use Rattle.std.specs.Prelude.{option_map}
use Rattle.target_base.specs.declared.types.ClassId.{ClassId}
use Rattle.target_base.specs.declared.types.Effect.{Effect}
use Rattle.target_base.specs.declared.types.Effect.TheVariants as effects
use Rattle.target_base.specs.declared.types.Target.{Target}
use Rattle.target_base.specs.Numbers.{unit_number}
use Rattle.target_base.specs.Roles.{is_silent}
use Rattle.meaning.specs.declared.types.Lane.{Lane}
use Rattle.meaning.specs.declared.types.Lane.TheVariants.{VirtualLane, UnitLane, SlotLane}
use Rattle.meaning.specs.Clash.{NoClash}
use Rattle.meaning.specs.Code.{Item, BlockStart, BlockEnd, Silent, Counted, Code, found}
use Rattle.meaning.specs.Fold.{Folded, Quiet}
use Rattle.meaning.specs.Layout.{NoPhis}
use Rattle.meaning.specs.Live.{Among as Member, here as first, there as later, Live}
use Rattle.laws.proofs.Clash.{no-clash-quiet}
use Rattle.mir_func.specs.declared.func.Instr.{Instr}
use Rattle.mir_func.specs.declared.func.Block.{Block}
use Rattle.mir_func.specs.Value.{Function}
use Rattle.mir_func.specs.Binding.{does, effect_of, is_early_clobber, is_lowered_away, is_terminator, passes, roles_of}
use Rattle.mir_meaning.specs.Codes.{block_end, blocks_code, code_of, effect_item, item_of, target_of, way, ways_out}
use Rattle.mir_meaning.specs.Items.{counted_writes, rest_of, silent_reads, silent_writes, values}
use Rattle.mir_meaning.specs.Points.{LiveAt, Start, points_of}
use Rattle.mir_meaning.specs.Registers.{is_reserved}
use Rattle.mir_meaning.proofs.Points.{points_are_code}
use Rattle.rewriter.specs.Laws.{HoldsLive, itself, lane}
use Rattle.rewriter.specs.Physical.{Assignment, physical_form}
use Rattle.rewrite_laws.proofs.Bare.{bare-blocks}
use Rattle.rewrite_laws.proofs.Blocks.{form-follows, none-follow}
use Rattle.rewrite_laws.proofs.Clear.{GoesTo, goes, no-clash, where-to}
use Rattle.rewrite_laws.proofs.Folding.{code-folds, none}
use Rattle.rewrite_laws.proofs.Operands.{goes-to, image}
use Rattle.valid_laws.specs.Rules.{PhysicalLiveUnits, StandsClear}
use Rattle.valid_laws.proofs.Fitting.{not-away}
use Rattle.valid_laws.proofs.Unreserved.{goes-free}
use Rattle.valid_laws.proofs.Living.{Clean, Fixes, MovesOnly, live-from, live-to}

-- an instruction that isn't lowered away reads nothing silently
silent-none : (t : Target) (f : Function) (e : Effect) (i : Instr) → is_lowered_away e ≡ false → silent_reads t f e i.operands ≡ []
silent-none t f effects.RegSequence i n = absurd (cc)
silent-none t f effects.InsertSubreg i n = absurd (cc)
silent-none t f e i n = refl

abbrev pub AllMove : Code → Type 0
AllMove [] = Unit {0}
AllMove (i ∷ p) = MovesOnly i × AllMove p

pub clean-by : (R : Lane → Bool) (m : Lane → Lane) (code p : Code) → Quiet R code m p → NoPhis p → AllMove p → Clean R m code p
clean-by R m code [] q z a = tt
clean-by R m code (BlockStart n ∷ p) q z a = (q.0, tt, a.0, clean-by R m code p q.1 z a.1)
clean-by R m code (BlockEnd falls exits ∷ p) q z a = (q.0, z.1, a.0, clean-by R m code p q.1 z.2 a.1)
clean-by R m code (Silent reads ws ∷ p) q z a = (q.0, tt, a.0, clean-by R m code p q.1 z a.1)
clean-by R m code (Counted r reads ws target exits ∷ p) q z a = (q.0, z.1, a.0, clean-by R m code p q.1 z.2 a.1)

module _ (t : Target) (f : Function) where
  moves-only : (b : Block) (i : Instr) → does is_lowered_away t i ≡ false → MovesOnly (item_of t f b i)
  unfolding item_of
  moves-only b i n = go (effect_of t i) n
    where
      by : (e : Effect) → is_lowered_away e ≡ false → (s : Bool) → MovesOnly (cond s (Silent (silent_reads t f e i.operands) (silent_writes t f e (is_early_clobber (roles_of t i)) i.operands)) (Counted (rest_of t f e i) (map (λ x. x.0) (values t f e i)) (counted_writes t f e i) (option_map (way t f b.number) (target_of i.operands)) (cond (is_terminator e) (ways_out t f b) [])))
      by e h true = silent-none t f e i h
      by e h false = tt

      go : (q : Option Effect) → passes is_lowered_away q ≡ false → MovesOnly (elim q as (λ o. Item) [ None ↦ Silent [] [] | Some e ↦ effect_item t f b i e ])
      go None h = refl
      go (Some e) h = by e h (is_silent e)

  items-move : (b : Block) (is : List Instr) (p : Code) → ((i : Instr) → Member i is → does is_lowered_away t i ≡ false) → AllMove p → AllMove (map (item_of t f b) is ++ p)
  items-move b [] p h a = a
  items-move b (i ∷ is) p h a = (moves-only b i (h i first), items-move b is p (λ x m. h x (later m)) a)

  pub blocks-move : (bs : List Block) → ((b : Block) (i : Instr) → Member b bs → Member i b.instrs → does is_lowered_away t i ≡ false) → AllMove (blocks_code (item_of t f) t f bs)
  blocks-move [] h = tt
  blocks-move (b ∷ bs) h = (tt, items-move b b.instrs (block_end t f b bs ∷ blocks_code (item_of t f) t f bs) (λ i m. h b i first m) (tt, blocks-move bs (λ c i mc mi. h c i (later mc) mi)))

module _ (t : Target) (f : Function) (rs : Assignment) (slots : List (ℕ × ClassId)) (live : ℕ → ℕ → Bool) (stand : StandsClear t f rs) where
  abbrev g : Function
  g = physical_form t rs slots live f

  abbrev m : Lane → Lane
  m = image t rs

  abbrev R : Lane → Bool
  R = is_reserved t

  points-were : points_of t f ≡ code_of t f
  points-were = points_are_code t f (none t f rs slots live stand.clear stand.lowered stand.plain)

  points-are : points_of t g ≡ code_of t g
  points-are = points_are_code t g (none-follow t rs f.blocks g.blocks (form-follows t rs slots live f) (none t f rs slots live stand.clear stand.lowered stand.plain))

  fixes-reserved : (l : Lane) → R l ≡ true → m l ≡ l
  fixes-reserved (VirtualLane v k) e = absurd (cc)
  fixes-reserved (UnitLane u) e = refl
  fixes-reserved (SlotLane s k w) e = refl

  only-itself : (l : Lane) → R (m l) ≡ true → m l ≡ l
  only-itself l e = go (where-to t f rs stand.clear l)
    where
      go : (m l ≡ l) ⊎ GoesTo t f rs stand.clear l → m l ≡ l
      go (inl h) = h
      go (inr z) = absurd (let n : true ≡ false = sym e ∙ goes-free t f rs stand.clear l z in cc)

  only-slots : (l : Lane) (s k w : ℕ) → m l ≡ SlotLane s k w → l ≡ SlotLane s k w
  only-slots l s k w e = go (where-to t f rs stand.clear l)
    where
      go : (m l ≡ l) ⊎ GoesTo t f rs stand.clear l → l ≡ SlotLane s k w
      go (inl h) = sym h ∙ e
      go (inr z) = absurd (let n : UnitLane z.u.0 ≡ SlotLane s k w = sym (goes t f rs stand.clear l z) ∙ e in cc)

  map-fixes : Fixes R m
  map-fixes = record { fixes = fixes-reserved; only = only-itself; slots = λ s k w. refl; slot_only = only-slots }

  quiet : Quiet R (code_of t f) m (code_of t f)
  quiet = no-clash-quiet R (code_of t f) m fixes-reserved only-itself (code_of t f) (subst (λ c. NoClash R c m c) points-were (no-clash t f rs stand.clear stand.lowered))

  bare : NoPhis (code_of t f)
  unfolding code_of
  bare = bare-blocks t f (none t f rs slots live stand.clear stand.lowered stand.plain) f.blocks

  all-move : AllMove (code_of t f)
  unfolding code_of
  all-move = blocks-move t f f.blocks (not-away t f rs stand)

  clean : Clean R m (code_of t f) (code_of t f)
  clean = clean-by R m (code_of t f) (code_of t f) quiet bare all-move

  folds : Folded m (code_of t f) (code_of t g)
  folds = code-folds t f rs slots live stand.clear stand.lowered stand.plain

  -- what was live at the start of a block
  abbrev Was : ℕ → Lane → Type 0
  Was n l = LiveAt t f (Start n) l

  was-to : (n : ℕ) (l : Lane) → Live R (code_of t f) (found n (code_of t f)) l → Was n l
  was-to n l h = subst (λ c. Live R c (found n c) l) (sym points-were) h

  was-from : (n : ℕ) (l : Lane) → Was n l → Live R (code_of t f) (found n (code_of t f)) l
  was-from n l h = subst (λ c. Live R c (found n c) l) points-were h

  unit-of : (u w : ℕ) → UnitLane u ≡ UnitLane w → u ≡ w
  unit-of u w e = cc

  holds : (n u : ℕ) (a : Lane) → m a ≡ UnitLane u → Was n a → HoldsLive t f rs n u
  holds n u a e h = go (where-to t f rs stand.clear a)
    where
      go : (m a ≡ a) ⊎ GoesTo t f rs stand.clear a → HoldsLive t f rs n u
      go (inl p) = itself (subst (Was n) (sym p ∙ e) h)
      go (inr z) =
          let same : z.u.0 ≡ u = unit-of z.u.0 u (sym (goes t f rs stand.clear a z) ∙ e) in
          lane z.v z.k z.r z.reg (z.unit ∙ ap (λ w. Some (unit_number w)) same) (subst (Was n) z.is h)

  held : (n u : ℕ) → HoldsLive t f rs n u → (a : Lane) × (m a ≡ UnitLane u) × Was n a
  held n u (itself h) = (UnitLane u, refl, h)
  held n u (lane v k r e x h) = (VirtualLane v k, goes-to t rs v k r (unit_number u) e x, h)

  pub units-live : (n u : ℕ) → LiveAt t g (Start n) (UnitLane u) ↔ HoldsLive t f rs n u
  units-live n u = (
    (λ h. let a = live-from R m map-fixes (code_of t f) (code_of t g) folds clean n (UnitLane u) (subst (λ c. Live R c (found n c) (UnitLane u)) points-are h) in holds n u a.0 a.1 (was-to n a.0 a.2)),
    (λ h. let a = held n u h in subst (λ c. Live R c (found n c) (UnitLane u)) (sym points-are) (subst (Live R (code_of t g) (found n (code_of t g))) a.1 (live-to R m map-fixes (code_of t f) (code_of t g) folds clean n a.0 (was-from n a.0 a.2)))),
  )

pub physical-live-units : PhysicalLiveUnits
physical-live-units t f rs slots live stand n u = units-live t f rs slots live stand n u
