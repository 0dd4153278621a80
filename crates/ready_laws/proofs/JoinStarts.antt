-- What is live where a function begins behind joins was live before, a range where a range was.
use Rattle.std.proofs.Common.{◌≡◌, ◌∙◌, ℕ, Bool, true, false, cond, List, Option, Some, None, refl, sym, ap, subst}
use Rattle.std.specs.Prelude.{nat_eq, option_map, slice_get}
use Rattle.target_base.specs.declared.types.Target.{Target}
use Rattle.meaning.specs.declared.types.Lane.{Lane}
use Rattle.meaning.specs.declared.types.Lane.TheVariants.{SlotLane, UnitLane, VirtualLane}
use Rattle.meaning.specs.Code.{found}
use Rattle.meaning.specs.Fold.{Folded, Folds}
use Rattle.meaning.specs.Live.{Among as Member, Live}
use Rattle.mir_func.specs.declared.func.Instr.{Instr}
use Rattle.mir_func.specs.declared.func.Block.{Block}
use Rattle.mir_func.specs.Value.{Function}
use Rattle.mir_func.specs.Binding.{does, is_lowered_away}
use Rattle.mir_meaning.specs.Codes.{code_of, meaning_of}
use Rattle.mir_meaning.specs.Points.{LiveAt, Start, has_no_phis, points_of}
use Rattle.mir_meaning.specs.Registers.{is_reserved}
use Rattle.mir_meaning.proofs.Points.{points_are_code}
use Rattle.live_laws.proofs.Effects.Blocks.{slice-map}
use Rattle.live_laws.proofs.Effects.Moving.{some-same}
use Rattle.lowering_laws.specs.Shapes.{IsLowered}
use Rattle.live_edits.specs.declared.fold.Join.{Join}
use Rattle.live_edits.specs.Folded.{folded, folded_block, image, lane_within}
use Rattle.join_laws.specs.Joined.{Joins, Tried, done, joins, stays}
use Rattle.join_laws.specs.Laws.{HasPlainUndefs}
use Rattle.join_laws.proofs.Asked.{IsAsked, asked}
use Rattle.join_laws.proofs.Folding.{folds}
use Rattle.join_laws.proofs.Kept.{join-lowered, join-plain}
use Rattle.join_laws.proofs.Named.{known, not-phi}
use Rattle.rewrite_laws.proofs.Bare.{all-without-phis}
use Rattle.valid_laws.proofs.Living.{Clean, Fixes, live-from, live-to}
use Rattle.valid_laws.proofs.LiveUnits.{AllMove, blocks-move, clean-by}
use Rattle.ready_laws.specs.Starts.{BeginsWithin, JoinedKeepsListed, ListsStart}
use Rattle.ready_laws.proofs.Starts.{within-keeps-listed}

module _ (t : Target) (f : Function) (low : IsLowered t f) where
  away : (b : Block) (i : Instr) → Member b f.blocks → Member i b.instrs → does is_lowered_away t i ≡ false
  away b i mb mi = (known t i (low.lowered b i mb mi)).1

  without-phis : has_no_phis t f.blocks ≡ true
  without-phis = all-without-phis t f.blocks (λ b i mb mi. (not-phi t i (away b i mb mi)).0)

  points-code : points_of t f ≡ code_of t f
  points-code = points_are_code t f without-phis

  code-moves : AllMove (code_of t f)
  unfolding code_of
  code-moves = blocks-move t f f.blocks away

module _ (t : Target) (f : Function) (id : ℕ) (j : Join) (low : IsLowered t f) (plain : HasPlainUndefs t f) (join : Joins t f id j) where
  abbrev g : Function
  g = folded t j f

  abbrev m : Lane → Lane
  m = image t j

  abbrev R : Lane → Bool
  R = is_reserved t

  a : IsAsked t f j
  a = asked t f id j low join.0

  low-after : IsLowered t g
  low-after = join-lowered t f j a low plain join.1

  fold : Folds R m (meaning_of t f) (meaning_of t g)
  fold = folds t f j a low plain join.1

  only-slots : (l : Lane) (s k w : ℕ) → m l ≡ SlotLane s k w → l ≡ SlotLane s k w
  only-slots (VirtualLane v i) s k w e = go (nat_eq v j.gone) e
    where
      go : (u : Bool) → cond u (VirtualLane j.keep (lane_within t j.index i)) (VirtualLane v i) ≡ SlotLane s k w → VirtualLane v i ≡ SlotLane s k w
      go true h = absurd (cc)
      go false h = h
  only-slots (UnitLane u) s k w e = e
  only-slots (SlotLane r i x) s k w e = e

  map-fixes : Fixes R m
  map-fixes = record { fixes = fold.fixes; only = fold.only; slots = λ s k w. refl; slot_only = only-slots }

  clean : Clean R m (code_of t f) (code_of t f)
  unfolding meaning_of
  clean = clean-by R m (code_of t f) (code_of t f) fold.quiet fold.fits.no_phis (code-moves t f low)

  code-folds : Folded m (code_of t f) (code_of t g)
  unfolding meaning_of
  code-folds = fold.folded

  -- what is live at the start of a block is the image of what was

  start-from : (n : ℕ) (l : Lane) → LiveAt t g (Start n) l → (k : Lane) × (m k ≡ l) × LiveAt t f (Start n) k
  start-from n l h =
      let z = live-from R m map-fixes (code_of t f) (code_of t g) code-folds clean n l (subst (λ c. Live R c (found n c) l) (points-code t g low-after) h) in
      (z.0, z.1, subst (λ c. Live R c (found n c) z.0) (sym (points-code t f low)) z.2)

  start-to : (n : ℕ) (l : Lane) → LiveAt t f (Start n) l → LiveAt t g (Start n) (m l)
  start-to n l h =
      subst (λ c. Live R c (found n c) (m l)) (sym (points-code t g low-after))
      (live-to R m map-fixes (code_of t f) (code_of t g) code-folds clean n l (subst (λ c. Live R c (found n c) l) (points-code t f low) h))

  unit-was : (l : Lane) (u : ℕ) → m l ≡ UnitLane u → l ≡ UnitLane u
  unit-was (VirtualLane v i) u e = go (nat_eq v j.gone) e
    where
      go : (b : Bool) → cond b (VirtualLane j.keep (lane_within t j.index i)) (VirtualLane v i) ≡ UnitLane u → VirtualLane v i ≡ UnitLane u
      go true h = absurd (cc)
      go false h = h
  unit-was (UnitLane w) u e = e
  unit-was (SlotLane r i x) u e = e

  block-was : (k : ℕ) (c : Block) → slice_get g.blocks k ≡ Some c → (b : Block) × (slice_get f.blocks k ≡ Some b) × (c ≡ folded_block t f j b)
  block-was k c e = go (slice_get f.blocks k) refl (sym (slice-map (folded_block t f j) f.blocks k) ∙ e)
    where
      go : (q : Option Block) → slice_get f.blocks k ≡ q → option_map (folded_block t f j) q ≡ Some c → (b : Block) × (slice_get f.blocks k ≡ Some b) × (c ≡ folded_block t f j b)
      go None h p = absurd (cc)
      go (Some b) h p = (b, h, sym (some-same (folded_block t f j b) c p))

  range-was : (w k : ℕ) (l : Lane) → m l ≡ VirtualLane w k → (n : ℕ) → LiveAt t f (Start n) l → (v : ℕ) × (i : ℕ) × LiveAt t f (Start n) (VirtualLane v i)
  range-was w k (VirtualLane v i) e n live = (v, i, live)
  range-was w k (UnitLane u) e n live = absurd (cc)
  range-was w k (SlotLane s x y) e n live = absurd (cc)

  begins : (c : Block) → slice_get g.blocks 0 ≡ Some c → (b : Block) × BeginsWithin t f g b c
  begins c e =
      let z = block-was 0 c e in
      let n : c.number ≡ z.0.number = ap (λ (d : Block). d.number) z.2 in (
        z.0,
        record {
          there = z.1;
          number = n;
          liveins = ap (λ (d : Block). d.liveins) z.2;
          units = λ u h. let x = start-from z.0.number (UnitLane u) (subst (λ y. LiveAt t g (Start y) (UnitLane u)) n h) in subst (LiveAt t f (Start z.0.number)) (unit-was x.0 u x.1) x.2;
          ranges = λ w k h. let x = start-from z.0.number (VirtualLane w k) (subst (λ y. LiveAt t g (Start y) (VirtualLane w k)) n h) in range-was w k x.0 x.1 z.0.number x.2;
        },
      )

  join-listed : ListsStart t f → ListsStart t g
  join-listed l = within-keeps-listed t f g begins l

tried-listed : (t : Target) {ids : List ℕ} {f g : Function} {js : List Join} → Tried t ids f js g → IsLowered t f → HasPlainUndefs t f → ListsStart t f → ListsStart t g
tried-listed t done low plain l = l
tried-listed t (joins {f = f} {id = id} {j = j} join on) low plain l =
    let z = asked t f id j low join.0 in
    tried-listed t on (join-lowered t f j z low plain join.1) (join-plain t f j z low plain join.1) (join-listed t f id j low plain join l)
tried-listed t (stays fails on) low plain l = tried-listed t on low plain l

pub joined-keeps-listed : JoinedKeepsListed
joined-keeps-listed t freqs f g js low plain joined l = tried-listed t joined low plain l
