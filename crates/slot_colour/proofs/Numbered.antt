-- A slot is live or occupied at a point of a function exactly where the number of one of its lanes is.
use Rattle.std.proofs.Common.{◌≡◌, ◌⊎◌, ℕ, zero, suc, Bool, true, false, cond, List, [], ◌∷◌, ◌++◌, Option, Some, None, map, drop, inl, inr, refl, sym, ap, ◌∙◌, subst, eqb-true}
use Rattle.std.specs.Prelude.{nat_eq, slice_get}
use Rattle.std.specs.List.{cons_option}
use Rattle.target_base.specs.declared.types.Target.{Target}
use Rattle.meaning.specs.declared.types.Lane.{Lane}
use Rattle.meaning.specs.declared.types.Lane.TheVariants.{VirtualLane, UnitLane, SlotLane}
use Rattle.meaning.specs.declared.types.Write.{Write}
use Rattle.meaning.specs.Lanes.{Writes}
use Rattle.meaning.specs.Code.{Edge, Item, Code as Places, found}
use Rattle.meaning.specs.Live.{Among as Member, here as first, there as later, writes_of, is_slot, Live as LivePlace, LiveAfter, after_next, after_leap, after_phi, OccupiedBefore, OccupiedAfter, Writing as Wrote, WritingEarly}
use Rattle.mir_func.specs.declared.func.Block.{Block}
use Rattle.mir_func.specs.declared.func.Instr.{Instr}
use Rattle.mir_func.specs.Value.{Function}
use Rattle.mir_meaning.specs.declared.writing.LaneDef.{LaneDef}
use Rattle.mir_meaning.specs.Registers.{is_reserved}
use Rattle.mir_meaning.specs.Codes.{ways_out, block_end, blocks_code}
use Rattle.mir_meaning.specs.Points.{Start, Entry, Exit, point_item, from_instr, AtFirst, OccupiedAt}
use Rattle.mir_meaning.specs.Paths.{Step, Code, is_written, writing_of, steps_of, Entry as Before, Exit as Behind, Live, next, leaps, leaps_phi}
use Rattle.mir_meaning.specs.Stands.{Tags, IsStep, IsOut, At, at_step, IsCodeOf}
use Rattle.instr_effects.specs.declared.owner.Owner.{Owner}
use Rattle.instr_effects.specs.declared.owner.Owner.TheVariants as owners
use Rattle.instr_effects.specs.Owners.{owner_of}
use Rattle.instr_effects.specs.Acts.{act_of, acts_of, entered_writes}
use Rattle.instr_effects.specs.Steps.{Numbering, writing, act_writings}
use Rattle.instr_effects.specs.Stepping.{tag_of}
use Rattle.instr_effects.proofs.Members.{member-none}
use Rattle.instr_effects.proofs.Plain.{moved-same}
use Rattle.live_lanes.specs.Occupied.{writes_early}
use Rattle.live_laws.specs.Effects.Shaped.{is_proper}
use Rattle.live_laws.specs.Effects.Coded.{instr_step, numbered_code, number_at, KeepsRules, IsNumbered}
use Rattle.live_laws.proofs.Places.Stands.{meets, meets-back}
use Rattle.live_laws.proofs.Effects.Moving.{writing-in, writing-from}
use Rattle.live_laws.proofs.Effects.Blocks.{slice-member, numbers-apart, block_code, found-block}
use Rattle.live_laws.proofs.Effects.Whole.{steps-at, standing, starts, is-out, step-at, code-of, points-are}
use Rattle.live_laws.proofs.Exact.Spots.{Spot, drop-at}
use Rattle.slot_colour.specs.Clashes.{SlotPoint}
use Rattle.slot_colour.proofs.Stored.{SameSlots, same-slots}

-- the number is that of a lane of the slot
abbrev pub IsNumber : Numbering → ℕ → ℕ → Type 0
IsNumber num s n = (k : ℕ) × (num (owners.Slot s k) ≡ Some n)

-- a lane of the slot
abbrev OfSlot : ℕ → Lane → Type 0
OfSlot s l = (k : ℕ) × (w : ℕ) × (l ≡ SlotLane s k w)

owned : (l : Lane) (s k : ℕ) → owner_of l ≡ owners.Slot s k → OfSlot s l
owned (VirtualLane v j) s k e = absurd (cc)
owned (UnitLane u) s k e = absurd (cc)
owned (SlotLane r j w) s k e = let same : r ≡ s = cc in (j, w, ap (λ x. SlotLane x j w) same)

drop-map : {X Y : Type 0} (g : X → Y) (k : ℕ) (xs : List X) → drop k (map g xs) ≡ map g (drop k xs)
drop-map g zero xs = refl
drop-map g (suc k) [] = refl
drop-map g (suc k) (x ∷ xs) = drop-map g k xs

drop-of : {X : Type 0} (x : X) (k : ℕ) (xs : List X) → Member x (drop k xs) → Member x xs
drop-of x zero xs m = m
drop-of x (suc k) [] m = m
drop-of x (suc k) (y ∷ xs) m = later (drop-of x k xs m)

leaving : (b : Bool) (out : List Edge) (e : Edge) → Member e (cond b out []) → (b ≡ true) × Member e out
leaving true out e m = (refl, m)
leaving false out e m = absurd (member-none e m)

-- where no write of a number is early, its first writing isn't
not-early : (num : Numbering) (n : ℕ) (ws : Writes) → ((v : Write) → Member v ws → num (owner_of v.lane) ≡ Some n → v.early ≡ false) → writes_early (writing_of n (act_writings num (acts_of ws))) ≡ false
not-early num n [] h = refl
not-early num n (v ∷ ws) h = go (num (owner_of v.lane)) refl (not-early num n ws (λ u m e. h u (later m) e))
  where
    rest : List LaneDef
    rest = act_writings num (acts_of ws)

    by : (k : ℕ) → num (owner_of v.lane) ≡ Some k → (b : Bool) → nat_eq k n ≡ b → writes_early (writing_of n rest) ≡ false → writes_early (cond b (Some (writing num (act_of v) k)) (writing_of n rest)) ≡ false
    by k f true g ih = h v first (f ∙ ap Some (eqb-true k n g))
    by k f false g ih = ih

    go : (q : Option ℕ) → num (owner_of v.lane) ≡ q → writes_early (writing_of n rest) ≡ false → writes_early (writing_of n (cons_option (elim q [ None ↦ None | Some k ↦ Some (writing num (act_of v) k) ]) rest)) ≡ false
    go None f ih = ih
    go (Some k) f ih = by k f (nat_eq k n) refl ih

module _ (t : Target) (f : Function) (num : Numbering) (rules : KeepsRules t f) (numbered : IsNumbered t f num) where
  abbrev T : Tags
  T = tag_of num (is_proper t)

  abbrev R : Lane → Bool
  R = is_reserved t

  abbrev C : Places
  C = blocks_code (point_item t f) t f f.blocks

  abbrev code : Code
  code = numbered_code t f num

  abbrev N : ℕ → ℕ
  N = number_at f.blocks

  stands : IsCodeOf R T N C code
  stands = code-of t f num rules numbered

  tag-number : (l : Lane) (n : ℕ) → T l ≡ Some n → num (owner_of l) ≡ Some n
  tag-number l n e = go (is_proper t l) e
    where
      go : (b : Bool) → cond b (num (owner_of l)) None ≡ Some n → num (owner_of l) ≡ Some n
      go true f = f
      go false f = absurd (cc)

  number-owner : (s n : ℕ) (o : Owner) → (z : IsNumber num s n) → num o ≡ Some n → o ≡ owners.Slot s z.0
  number-owner s n o z e = numbered.numbering.names o (owners.Slot s z.0) n e z.1

  lane-of : (s n : ℕ) (l : Lane) → IsNumber num s n → T l ≡ Some n → OfSlot s l
  lane-of s n l z e = owned l s z.0 (number-owner s n (owner_of l) z (tag-number l n e))

  -- what holds of a lane of a slot by its number
  abbrev ByNumber : (ℕ → Type 0) → ℕ → Type 0
  ByNumber P s = (n : ℕ) × IsNumber num s n × P n

  -- live lanes

  before-forth : (x : ℕ) (p : Places) (ss : List Step) → At R T N C code x p ss → (s k w : ℕ) → LivePlace R C p (SlotLane s k w) → ByNumber (Live code x (Before ss)) s
  before-forth x p ss at s k w h = let z = meets R T N C code stands h x ss at in (z.0, (k, tag-number (SlotLane s k w) z.0 z.1), z.2)

  before-back : (x : ℕ) (p : Places) (ss : List Step) → At R T N C code x p ss → (s n : ℕ) → IsNumber num s n → Live code x (Before ss) n → (k : ℕ) × (w : ℕ) × LivePlace R C p (SlotLane s k w)
  before-back x p ss at s n z h =
      let y = meets-back R T N C code stands h p at in
      let l = lane-of s n y.0 z y.1 in
      (l.0, l.1, subst (λ a. LivePlace R C p a) l.2 y.2)

  module _ (x : ℕ) (out : List Edge) (i : Item) (p : Places) (st : Step) (ss : List Step) (step : IsStep R T out i st) (o : IsOut R T N C code x out) (at : At R T N C code x p ss) where
    abbrev Tagged : Lane → Type 0
    Tagged l = (n : ℕ) × (T l ≡ Some n) × Live code x (Behind st ss) n

    after-meets : (l : Lane) → R l ≡ false → LiveAfter R C i p l → Tagged l
    after-meets l free (after_next q h) = let z = meets R T N C code stands h x ss at in (z.0, z.1, next z.2)
    after-meets l free (after_leap {e = e} {a = a} m h g) =
        let out' = leaving st.leaves out e (subst (λ es. Member e es) step.exits m) in
        let y = o.forth e out'.1 in
        let begun = subst (λ k. At R T N C code y.0 (found k C) (steps_of code y.0)) (sym y.2) (starts t f num rules numbered x y.0 y.1) in
        let z = meets R T N C code stands h y.0 (steps_of code y.0) begun in
        let same : l ≡ a = moved-same l a (sym g ∙ o.through e a out'.1 h) in
        (z.0, ap T same ∙ z.1, leaps out'.0 y.1 z.2)
    after-meets l free (after_phi {e = e} {w = w} m k g) =
        let out' = leaving st.leaves out e (subst (λ es. Member e es) step.exits m) in
        let z = o.phis e w l out'.1 k g free in
        (z.0, z.1, leaps_phi out'.0 z.2)

    after-forth : (s k w : ℕ) → LiveAfter R C i p (SlotLane s k w) → ByNumber (Live code x (Behind st ss)) s
    after-forth s k w h = let z = after-meets (SlotLane s k w) refl h in (z.0, (k, tag-number (SlotLane s k w) z.0 z.1), z.2)

    after-back : (s n : ℕ) → IsNumber num s n → Live code x (Behind st ss) n → (k : ℕ) × (w : ℕ) × LiveAfter R C i p (SlotLane s k w)
    after-back s n z h =
        let y = meets-back R T N C code stands h out i p step o at in
        let l = lane-of s n y.0 z y.1 in
        (l.0, l.1, subst (λ a. LiveAfter R C i p a) l.2 y.2)

  -- lanes that are written

  module _ (b : Block) (i : Instr) (mb : Member b f.blocks) (mi : Member i b.instrs) where
    abbrev item : Item
    item = point_item t f b i

    same : SameSlots T (writes_of item) (entered_writes t f i)
    same = same-slots t f num rules numbered b i mb mi

    written-forth : (s k w : ℕ) → Wrote item (SlotLane s k w) → ByNumber (λ n. is_written n (instr_step t f num i) ≡ true) s
    written-forth s k w z =
        let y = same.forth z.0 z.1 (ap is_slot z.2) in
        let owner : owner_of y.0.lane ≡ owners.Slot s k = y.3 ∙ ap owner_of z.2 in
        let number = tag-number y.0.lane y.1 y.4 in
        (y.1, (k, ap num (sym owner) ∙ number), writing-in num y.0 y.1 (entered_writes t f i) y.2 number)

    written-back : (s n : ℕ) → IsNumber num s n → is_written n (instr_step t f num i) ≡ true → (k : ℕ) × (w : ℕ) × Wrote item (SlotLane s k w)
    written-back s n z e =
        let y = writing-from num n (entered_writes t f i) e in
        let l = owned y.0.lane s z.0 (number-owner s n (owner_of y.0.lane) z y.2) in
        let v = same.back y.0 y.1 (ap is_slot l.2) in
        (l.0, l.1, (v.0, v.1, v.2 ∙ l.2))

    early-none : (s k w : ℕ) → WritingEarly item (SlotLane s k w) → ⊥
    early-none s k w z = let a = same.late z.0 z.1 (ap is_slot z.2) in let b = z.3 in cc

    step-late : (s n : ℕ) → IsNumber num s n → writes_early (writing_of n (instr_step t f num i).writes) ≡ false
    step-late s n z = not-early num n (entered_writes t f i) (λ v m e. same.entered_late v m (ap is_slot (owned v.lane s z.0 (number-owner s n (owner_of v.lane) z e)).2))

  -- the start of a block

  module _ (x : ℕ) (b : Block) (place : slice_get f.blocks x ≡ Some b) where
    abbrev after : List Block
    after = (found-block t f f.blocks x b place (numbers-apart f rules.blocks)).0

    found-is : found b.number C ≡ block_code t f b after
    found-is = (found-block t f f.blocks x b place (numbers-apart f rules.blocks)).1

    begun : At R T N C code x (block_code t f b after) (steps_of code x)
    begun = subst (λ ss. At R T N C code x (block_code t f b after) ss) (sym (steps-at t f num rules numbered x b place)) (standing t f num rules numbered x b place after b.instrs (λ i m. m))

    pub start-forth : (s : ℕ) → SlotPoint t f s (Start b.number) → ByNumber (Live code x (Before (steps_of code x))) s
    start-forth s z =
        let h : LivePlace R C (found b.number C) (SlotLane s z.0 z.1) = subst (λ c. LivePlace R c (found b.number c) (SlotLane s z.0 z.1)) (points-are t f num rules numbered) z.2 in
        before-forth x (block_code t f b after) (steps_of code x) begun s z.0 z.1 (subst (λ p. LivePlace R C p (SlotLane s z.0 z.1)) found-is h)

    pub start-back : (s n : ℕ) → IsNumber num s n → Live code x (Before (steps_of code x)) n → SlotPoint t f s (Start b.number)
    start-back s n z h =
        let y = before-back x (block_code t f b after) (steps_of code x) begun s n z h in
        let g : LivePlace R C (found b.number C) (SlotLane s y.0 y.1) = subst (λ p. LivePlace R C p (SlotLane s y.0 y.1)) (sym found-is) y.2 in
        (y.0, y.1, subst (λ c. LivePlace R c (found b.number c) (SlotLane s y.0 y.1)) (sym (points-are t f num rules numbered)) g)

  -- around an instruction

  module _ (id x j : ℕ) (spot : Spot t f id f.blocks x j) where
    abbrev ahead : Places
    ahead = map (point_item t f spot.block) (drop (suc j) spot.block.instrs) ++ (block_end t f spot.block spot.after ∷ blocks_code (point_item t f) t f spot.after)

    abbrev step : Step
    step = instr_step t f num spot.instr

    abbrev rest : List Step
    rest = drop (suc j) (steps_of code x)

    there : Member spot.block f.blocks
    there = slice-member f.blocks x spot.block spot.place

    inside : Member spot.instr spot.block.instrs
    inside = slice-member spot.block.instrs j spot.instr spot.there

    -- the instruction comes first in the code from its id on
    first-is : from_instr t f id f.blocks ≡ point_item t f spot.block spot.instr ∷ ahead
    first-is = spot.code ∙ ap (λ (is : List Instr). map (point_item t f spot.block) is ++ (block_end t f spot.block spot.after ∷ blocks_code (point_item t f) t f spot.after)) (drop-at spot.block.instrs j spot.instr spot.there).0

    rest-is : rest ≡ map (instr_step t f num) (drop (suc j) spot.block.instrs)
    rest-is = ap (drop (suc j)) (steps-at t f num rules numbered x spot.block spot.place) ∙ drop-map (instr_step t f num) (suc j) spot.block.instrs

    is-step : IsStep R T (ways_out t f spot.block) (point_item t f spot.block spot.instr) step
    is-step = step-at t f num rules numbered x spot.block spot.place spot.instr inside

    behind : At R T N C code x ahead rest
    behind = subst (λ ss. At R T N C code x ahead ss) (sym rest-is) (standing t f num rules numbered x spot.block spot.place spot.after (drop (suc j) spot.block.instrs) (λ i m. drop-of i (suc j) spot.block.instrs m))

    here : At R T N C code x (point_item t f spot.block spot.instr ∷ ahead) (step ∷ rest)
    here = at_step is-step (is-out t f num rules numbered x spot.block spot.place) behind

    into : (l : Lane) → OccupiedAt t f (Entry id) l → OccupiedBefore R C (point_item t f spot.block spot.instr) ahead l
    into l h =
        let g : AtFirst (λ i p. OccupiedBefore R C i p l) (from_instr t f id f.blocks) = subst (λ c. AtFirst (λ i p. OccupiedBefore R c i p l) (from_instr t f id f.blocks)) (points-are t f num rules numbered) h in
        subst (AtFirst (λ i p. OccupiedBefore R C i p l)) first-is g

    into-back : (l : Lane) → OccupiedBefore R C (point_item t f spot.block spot.instr) ahead l → OccupiedAt t f (Entry id) l
    into-back l h =
        let g : AtFirst (λ i p. OccupiedBefore R C i p l) (from_instr t f id f.blocks) = subst (AtFirst (λ i p. OccupiedBefore R C i p l)) (sym first-is) h in
        subst (λ c. AtFirst (λ i p. OccupiedBefore R c i p l) (from_instr t f id f.blocks)) (sym (points-are t f num rules numbered)) g

    out-of : (l : Lane) → OccupiedAt t f (Exit id) l → OccupiedAfter R C (point_item t f spot.block spot.instr) ahead l
    out-of l h =
        let g : AtFirst (λ i p. OccupiedAfter R C i p l) (from_instr t f id f.blocks) = subst (λ c. AtFirst (λ i p. OccupiedAfter R c i p l) (from_instr t f id f.blocks)) (points-are t f num rules numbered) h in
        subst (AtFirst (λ i p. OccupiedAfter R C i p l)) first-is g

    out-back : (l : Lane) → OccupiedAfter R C (point_item t f spot.block spot.instr) ahead l → OccupiedAt t f (Exit id) l
    out-back l h =
        let g : AtFirst (λ i p. OccupiedAfter R C i p l) (from_instr t f id f.blocks) = subst (AtFirst (λ i p. OccupiedAfter R C i p l)) (sym first-is) h in
        subst (λ c. AtFirst (λ i p. OccupiedAfter R c i p l) (from_instr t f id f.blocks)) (sym (points-are t f num rules numbered)) g

    pub entry-forth : (s : ℕ) → SlotPoint t f s (Entry id) → ByNumber (λ n. Live code x (Before (step ∷ rest)) n ⊎ (writes_early (writing_of n step.writes) ≡ true)) s
    entry-forth s z = go (into (SlotLane s z.0 z.1) z.2).0
      where
        go : LivePlace R C (point_item t f spot.block spot.instr ∷ ahead) (SlotLane s z.0 z.1) ⊎ WritingEarly (point_item t f spot.block spot.instr) (SlotLane s z.0 z.1) → ByNumber (λ n. Live code x (Before (step ∷ rest)) n ⊎ (writes_early (writing_of n step.writes) ≡ true)) s
        go (inl h) = let y = before-forth x (point_item t f spot.block spot.instr ∷ ahead) (step ∷ rest) here s z.0 z.1 h in (y.0, y.1, inl y.2)
        go (inr h) = absurd (early-none spot.block spot.instr there inside s z.0 z.1 h)

    pub entry-back : (s n : ℕ) → IsNumber num s n → Live code x (Before (step ∷ rest)) n ⊎ (writes_early (writing_of n step.writes) ≡ true) → SlotPoint t f s (Entry id)
    entry-back s n z (inl h) = let y = before-back x (point_item t f spot.block spot.instr ∷ ahead) (step ∷ rest) here s n z h in (y.0, y.1, into-back (SlotLane s y.0 y.1) (inl y.2, refl))
    entry-back s n z (inr e) = absurd (let a = step-late spot.block spot.instr there inside s n z in cc)

    pub exit-forth : (s : ℕ) → SlotPoint t f s (Exit id) → ByNumber (λ n. Live code x (Behind step rest) n ⊎ (is_written n step ≡ true)) s
    exit-forth s z = go (out-of (SlotLane s z.0 z.1) z.2).0
      where
        go : LiveAfter R C (point_item t f spot.block spot.instr) ahead (SlotLane s z.0 z.1) ⊎ Wrote (point_item t f spot.block spot.instr) (SlotLane s z.0 z.1) → ByNumber (λ n. Live code x (Behind step rest) n ⊎ (is_written n step ≡ true)) s
        go (inl h) = let y = after-forth x (ways_out t f spot.block) (point_item t f spot.block spot.instr) ahead step rest is-step (is-out t f num rules numbered x spot.block spot.place) behind s z.0 z.1 h in (y.0, y.1, inl y.2)
        go (inr h) = let y = written-forth spot.block spot.instr there inside s z.0 z.1 h in (y.0, y.1, inr y.2)

    pub exit-back : (s n : ℕ) → IsNumber num s n → Live code x (Behind step rest) n ⊎ (is_written n step ≡ true) → SlotPoint t f s (Exit id)
    exit-back s n z (inl h) =
        let y = after-back x (ways_out t f spot.block) (point_item t f spot.block spot.instr) ahead step rest is-step (is-out t f num rules numbered x spot.block spot.place) behind s n z h in
        (y.0, y.1, out-back (SlotLane s y.0 y.1) (inl y.2, refl))
    exit-back s n z (inr e) = let y = written-back spot.block spot.instr there inside s n z e in (y.0, y.1, out-back (SlotLane s y.0 y.1) (inr y.2, refl))
