-- What instructions write, by their items and over numbered lanes.
use Rattle.std.proofs.Common.{◌≡◌, ℕ, ◌+◌, Bool, true, false, cond, ◌&&◌, List, [], ◌∷◌, ◌++◌, Some, refl, sym, ap, ◌∙◌}
use Rattle.std.specs.Prelude.{◌↔◌, nat_eq}
use Rattle.std.proofs.lemmas.Bool.{and_parts, and_from, eq-eqb}
use Rattle.target_base.specs.declared.types.Target.{Target}
use Rattle.meaning.specs.declared.types.Lane.{Lane}
use Rattle.meaning.specs.declared.types.Lane.TheVariants.{VirtualLane, UnitLane, SlotLane}
use Rattle.meaning.specs.declared.types.Write.{Write}
use Rattle.meaning.specs.Lanes.{Writes, same_lane}
use Rattle.meaning.specs.Live.{Among as Member, here as first, there as later, writes_of, is_slot, Writing, WritingEarly}
use Rattle.mir_func.specs.declared.func.Instr.{Instr}
use Rattle.mir_func.specs.declared.func.Block.{Block}
use Rattle.mir_func.specs.Value.{Function}
use Rattle.mir_func.specs.Binding.{does, is_terminator}
use Rattle.mir_meaning.specs.Points.{Point, Entry, Exit, point_item}
use Rattle.mir_meaning.specs.Paths.{is_written}
use Rattle.mir_meaning.specs.Registers.{is_reserved}
use Rattle.instr_effects.specs.Acts.{entered_reads, entered_writes}
use Rattle.instr_effects.specs.Steps.{Numbering}
use Rattle.instr_effects.specs.Stepping.{tag_of}
use Rattle.instr_effects.proofs.Plain.{same-is}
use Rattle.live_laws.specs.Effects.Shaped.{is_proper}
use Rattle.live_laws.specs.Effects.Coded.{instr_step, is_early, KeepsRules, IsNumbered}
use Rattle.live_laws.proofs.Effects.Flags.{writes-same, early-same}
use Rattle.live_laws.proofs.Effects.Instrs.{same-law}
use Rattle.live_laws.proofs.Effects.Blocks.{slice-member}
use Rattle.live_laws.proofs.Effects.Lists.{any-in}
use Rattle.point_laws.proofs.Pieces.{any-of}
use Rattle.interval_laws.specs.Segments.{at_instr, at_exit, at_early, last_live, exit_mark, points_until, facts_of, written_segment, written_segments}

-- two tests of which each passes where the other does
same-test : (a b : Bool) → (a ≡ true → b ≡ true) → (b ≡ true → a ≡ true) → a ≡ b
same-test true b f g = sym (f refl)
same-test false true f g = absurd (let z = g refl in cc)
same-test false false f g = refl

same-refl : (l : Lane) → same_lane l l ≡ true
same-refl (VirtualLane v k) = and_from (nat_eq v v) (nat_eq k k) (eq-eqb v v refl) (eq-eqb k k refl)
same-refl (UnitLane u) = eq-eqb u u refl
same-refl (SlotLane s k w) = and_from (nat_eq s s) (nat_eq k k && nat_eq w w) (eq-eqb s s refl) (and_from (nat_eq k k) (nat_eq w w) (eq-eqb k k refl) (eq-eqb w w refl))

module _ (t : Target) (f : Function) (num : Numbering) (rules : KeepsRules t f) (numbered : IsNumbered t f num) (l : Lane) (n : ℕ) (still : is_slot l ≡ false) (tagged : tag_of num (is_proper t) l ≡ Some n) (live : Point → Bool) (b : Block) (i : Instr) (mb : Member b f.blocks) (mi : Member i b.instrs) where
  abbrev ws : Writes
  ws = writes_of (point_item t f b i)

  by-writes : (Writing (point_item t f b i) l) ↔ (is_written n (instr_step t f num i) ≡ true)
  by-writes = writes-same (is_reserved t) num (is_proper t) numbered.numbering (point_item t f b i) i.id (does is_terminator t i) (entered_reads t f i) (entered_writes t f i) (same-law t f num rules numbered b i mb mi) l n tagged still

  by-early : (WritingEarly (point_item t f b i) l) ↔ (is_early n (instr_step t f num i) ≡ true)
  by-early = early-same (is_reserved t) num (is_proper t) numbered.numbering (point_item t f b i) i.id (does is_terminator t i) (entered_reads t f i) (entered_writes t f i) (same-law t f num rules numbered b i mb mi) l n tagged still

  pub written-is : (facts_of t f l live).writes b i ≡ is_written n (instr_step t f num i)
  written-is = same-test _ _
      (λ h. let z = any-of (λ (w : Write). same_lane l w.lane) ws h in by-writes.0 (z.1, slice-member ws z.0 z.1 z.2, sym (same-is l z.1.lane z.3)))
      (λ h. let z = by-writes.1 h in any-in (λ (w : Write). same_lane l w.lane) z.0 ws z.1 (ap (same_lane l) z.2 ∙ same-refl l))

  pub early-is : (facts_of t f l live).early b i ≡ is_early n (instr_step t f num i)
  early-is = same-test _ _
      (λ h. let z = any-of (λ (w : Write). same_lane l w.lane && w.early) ws h in let y = and_parts (same_lane l z.1.lane) z.1.early z.3 in by-early.0 (z.1, slice-member ws z.0 z.1 z.2, sym (same-is l z.1.lane y.0), y.1))
      (λ h. let z = by-early.1 h in any-in (λ (w : Write). same_lane l w.lane && w.early) z.0 ws z.1 (and_from (same_lane l z.0.lane) z.0.early (ap (same_lane l) z.2 ∙ same-refl l) z.3))

-- segments by tests that answer alike

abbrev pub Agrees : (Instr → Bool) → (Instr → Bool) → (Instr → Bool) → (Instr → Bool) → List Instr → Type 0
Agrees writes early writes' early' [] = Unit {0}
Agrees writes early writes' early' (i ∷ w) = (writes i ≡ writes' i) × (early i ≡ early' i) × Agrees writes early writes' early' w

module _ (live : Point → Bool) (writes early writes' early' : Instr → Bool) (end : ℕ) where
  pub same-points : (n : ℕ) (w : List Instr) → Agrees writes early writes' early' w → points_until writes end n w ≡ points_until writes' end n w
  same-points n [] h = refl
  same-points n (i ∷ w) h =
      ap (λ b. (Entry i.id, at_instr n) ∷ cond b [] ((Exit i.id, exit_mark end (at_instr n) w) ∷ points_until writes end (n + 16) w)) h.0
      ∙ ap (λ ps. (Entry i.id, at_instr n) ∷ cond (writes' i) [] ((Exit i.id, exit_mark end (at_instr n) w) ∷ ps)) (same-points (n + 16) w h.2)

  pub same-written : (n : ℕ) (w : List Instr) → Agrees writes early writes' early' w → written_segments live writes early end n w ≡ written_segments live writes' early' end n w
  same-written n [] h = refl
  same-written n (i ∷ w) h =
      ap (λ b. cond b (written_segment live writes (early i) end n i w ∷ []) [] ++ written_segments live writes early end (n + 16) w) h.0
      ∙ ap (λ s. cond (writes' i) (s ∷ []) [] ++ written_segments live writes early end (n + 16) w) one
      ∙ ap (λ ss. cond (writes' i) (written_segment live writes' (early' i) end n i w ∷ []) [] ++ ss) (same-written (n + 16) w h.2)
    where
      one : written_segment live writes (early i) end n i w ≡ written_segment live writes' (early' i) end n i w
      one =
          ap (λ b. written_segment live writes b end n i w) h.1
          ∙ ap (λ ps. (cond (early' i) (at_early n) (at_instr n), last_live live (at_exit n) ((Exit i.id, exit_mark end (at_exit n) w) ∷ ps))) (same-points (n + 16) w h.2)

pub agrees : (writes early writes' early' : Instr → Bool) (is w : List Instr) → ((i : Instr) → Member i is → (writes i ≡ writes' i) × (early i ≡ early' i)) → ((i : Instr) → Member i w → Member i is) → Agrees writes early writes' early' w
agrees writes early writes' early' is [] h inside = tt
agrees writes early writes' early' is (i ∷ w) h inside = let z = h i (inside i first) in (z.0, z.1, agrees writes early writes' early' is w h (λ j m. inside j (later m)))
