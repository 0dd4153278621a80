-- A range that is live somewhere has a class.
use Rattle.std.proofs.Common.{◌≡◌, ◌<◌, ◌++◌, ◌∙◌, ℕ, zero, suc, Bool, true, false, cond, List, [], ◌∷◌, Option, Some, None, map, drop, length, refl, sym, ap, subst, arith}
use Rattle.std.specs.Prelude.{is_some}
use Rattle.target_base.specs.declared.types.ClassId.{ClassId}
use Rattle.target_base.specs.declared.types.Target.{Target}
use Rattle.target_base.specs.Registers.{widths_of_some}
use Rattle.meaning.specs.Code.{Code, Item, found}
use Rattle.meaning.specs.Live.{Among as Member, Live, LiveAfter, after_leap, after_next, after_phi, exits_of}
use Rattle.meaning.specs.Lanes.{filled}
use Rattle.meaning.specs.declared.types.Lane.{Lane}
use Rattle.meaning.specs.declared.types.Lane.TheVariants.{VirtualLane}
use Rattle.laws.proofs.Flow.{lane-inj}
use Rattle.mir_func.specs.declared.func.Instr.{Instr}
use Rattle.mir_func.specs.declared.func.Block.{Block}
use Rattle.mir_func.specs.Value.{Function}
use Rattle.mir_func.specs.Edits.{instr_place}
use Rattle.mir_func.specs.Binding.{class_of}
use Rattle.mir_meaning.specs.Codes.{block_end, blocks_code}
use Rattle.mir_meaning.specs.Points.{AtFirst, Entry, Exit, Point, Start, block_rest, from_instr, has_instr, point_item, points_of}
use Rattle.mir_meaning.specs.Registers.{is_reserved}
use Rattle.instr_effects.proofs.Members.{member-none}
use Rattle.split_kit.specs.Split.{RangeLive}
use Rattle.split_laws.proofs.Renamed.{bare-edge}
use Rattle.split_laws.proofs.Within.{AllKeep, IsOwn, found-keep, live-keeps}

module _ (t : Target) (f : Function) (v : ℕ) where
  abbrev pub Keeping : Code → Type 0
  Keeping p = AllKeep (IsOwn t f v) (λ s k w. tt) p

  abbrev R : Lane → Bool
  R = is_reserved t

  abbrev C : Code
  C = points_of t f

  keep-past : (b : Block) (is : List Instr) (p : Code) → Keeping (map (point_item t f b) is ++ p) → Keeping p
  keep-past b [] p h = h
  keep-past b (i ∷ is) p h = keep-past b is p h.1

  keep-drop : (b : Block) (k : ℕ) (is : List Instr) (p : Code) → Keeping (map (point_item t f b) is ++ p) → Keeping (map (point_item t f b) (drop k is) ++ p)
  keep-drop b zero is p h = h
  keep-drop b (suc k) [] p h = h
  keep-drop b (suc k) (i ∷ is) p h = keep-drop b k is p h.1

  abbrev behind : Block → List Block → Code
  behind b after = block_end t f b after ∷ blocks_code (point_item t f) t f after

  keep-from : (id : ℕ) (bs : List Block) → Keeping (blocks_code (point_item t f) t f bs) → Keeping (from_instr t f id bs)
  keep-from id [] h = tt
  keep-from id (b ∷ after) h = go (has_instr id b) (keep-from id after (keep-past b b.instrs (behind b after) h.1).1)
    where
      go : (c : Bool) → Keeping (from_instr t f id after) → Keeping (cond c (block_rest t f b after (instr_place id b.instrs)) (from_instr t f id after))
      go true k = keep-drop b (instr_place id b.instrs) b.instrs (behind b after) h.1
      go false k = k

  some-class : (k : ℕ) (q : Option ClassId) → k < length (widths_of_some t q) → is_some q ≡ true
  some-class k None h = absurd (omega arith)
  some-class k (Some c) h = refl

  module _ (keep : Keeping C) where
    live-class : (p : Code) (k : ℕ) → Keeping p → Live R C p (VirtualLane v k) → is_some (class_of f v) ≡ true
    live-class p k h l = some-class k (class_of f v) (live-keeps (IsOwn t f v) (λ s k w. tt) R C keep l h refl)

    after-class : (i : Item) (p : Code) (k : ℕ) → Keeping (i ∷ p) → LiveAfter R C i p (VirtualLane v k) → is_some (class_of f v) ≡ true
    after-class i p k h (after_next o l) = live-class p k h.1 l
    after-class i p k h (after_leap {e = e} {a = a} x l g) =
        let none : e.phis ≡ [] = bare-edge (exits_of i) e h.0.bare x in
        let same : a ≡ VirtualLane v k = lane-inj a (VirtualLane v k) (sym (ap (λ ws. filled ws a) none) ∙ g) in
        live-class (found e.block C) k (found-keep (IsOwn t f v) (λ s k w. tt) e.block C keep) (subst (Live R C (found e.block C)) same l)
    after-class i p k h (after_phi {e = e} {w = w} x y g) = absurd (member-none w (subst (Member w) (bare-edge (exits_of i) e h.0.bare x) y))

    first-class : (p : Code) (k : ℕ) → Keeping p → AtFirst (λ i p. LiveAfter R C i p (VirtualLane v k)) p → is_some (class_of f v) ≡ true
    first-class [] k h l = absurd l
    first-class (i ∷ p) k h l = after-class i p k h l

    code-keeps : Keeping (blocks_code (point_item t f) t f f.blocks)
    unfolding points_of
    code-keeps = keep

    pub range-class : (p : Point) → RangeLive t f v p → is_some (class_of f v) ≡ true
    range-class (Start n) l = live-class (found n C) l.0 (found-keep (IsOwn t f v) (λ s k w. tt) n C keep) l.1
    range-class (Entry id) l = live-class (from_instr t f id f.blocks) l.0 (keep-from id f.blocks code-keeps) l.1
    range-class (Exit id) l = first-class (from_instr t f id f.blocks) l.0 (keep-from id f.blocks code-keeps) l.1
