-- An item reads a lane exactly where its step uses the lane's number: in any case, or for a lane that is live behind it.
use Rattle.std.proofs.Common.{◌≡◌, ◌⊎◌, ℕ, Bool, true, false, cond, List, [], Option, Some, inl, inr, refl, sym, ap, ◌∙◌, subst}
use Rattle.std.specs.Prelude.{◌↔◌, slice_get}
use Rattle.target_base.specs.declared.types.Target.{Target}
use Rattle.meaning.specs.declared.types.Lane.{Lane}
use Rattle.meaning.specs.declared.types.Lane.TheVariants.{SlotLane}
use Rattle.meaning.specs.declared.types.Source.TheVariants.{FromLane}
use Rattle.meaning.specs.declared.types.Fill.TheVariants.{Moved}
use Rattle.meaning.specs.declared.types.Write.{Write}
use Rattle.meaning.specs.Lanes.{filled}
use Rattle.meaning.specs.Code.{Edge, Item, Code as Places, found}
use Rattle.meaning.specs.Live.{Among as Member, writes_of, is_slot, Feeds, Writing, WritingEarly, KeptAfter, LiveAfter, after_next, after_leap, after_phi}
use Rattle.mir_func.specs.declared.func.Block.{Block}
use Rattle.mir_func.specs.declared.func.Instr.{Instr}
use Rattle.mir_func.specs.Value.{Function}
use Rattle.mir_func.specs.Binding.{does, is_terminator}
use Rattle.mir_meaning.specs.Codes.{ways_out, blocks_code}
use Rattle.mir_meaning.specs.Points.{point_item}
use Rattle.mir_meaning.specs.Registers.{is_reserved}
use Rattle.mir_meaning.specs.declared.writing.LaneDef.{LaneDef}
use Rattle.mir_meaning.specs.Paths.{Step, Code, Certain, Into, is_present, is_written, steps_of, use_of, Exit as Behind, Live, next, leaps, leaps_phi}
use Rattle.mir_meaning.specs.Stands.{Tags, ReadBy, Reaches, IsStep, IsOut, At, IsCodeOf}
use Rattle.instr_effects.specs.Acts.{entered_reads, entered_writes}
use Rattle.instr_effects.specs.Steps.{Numbering}
use Rattle.instr_effects.specs.Stepping.{tag_of}
use Rattle.instr_effects.proofs.Members.{member-none}
use Rattle.instr_effects.proofs.Plain.{filled-cases, moved-same}
use Rattle.live_laws.specs.Acts.{Reading}
use Rattle.live_laws.specs.Effects.Shaped.{is_proper}
use Rattle.live_laws.specs.Effects.Coded.{instr_step, is_early, numbered_code, number_at, KeepsRules, IsNumbered}
use Rattle.live_laws.proofs.Effects.Blocks.{slice-member}
use Rattle.live_laws.proofs.Effects.Flags.{IsSame, writes-same, early-same}
use Rattle.live_laws.proofs.Effects.Instrs.{matched-law, same-law, written-law}
use Rattle.live_laws.proofs.Effects.Whole.{starts, is-out, step-at, code-of}
use Rattle.live_laws.proofs.Places.Stands.{meets, meets-back}

leaving : (b : Bool) (out : List Edge) (e : Edge) → Member e (cond b out []) → (b ≡ true) × Member e out
leaving true out e m = (refl, m)
leaving false out e m = absurd (member-none e m)

module _ (t : Target) (f : Function) (num : Numbering) (rules : KeepsRules t f) (numbered : IsNumbered t f num) (x : ℕ) (b : Block) (place : slice_get f.blocks x ≡ Some b) (i : Instr) (inside : Member i b.instrs) where
  abbrev T : Tags
  T = tag_of num (is_proper t)

  abbrev R : Lane → Bool
  R = is_reserved t

  abbrev C : Places
  C = blocks_code (point_item t f) t f f.blocks

  abbrev code : Code
  code = numbered_code t f num

  abbrev item : Item
  item = point_item t f b i

  abbrev s : Step
  s = instr_step t f num i

  stands : IsCodeOf R T (number_at f.blocks) C code
  stands = code-of t f num rules numbered

  step : IsStep R T (ways_out t f b) item s
  step = step-at t f num rules numbered x b place i inside

  out : IsOut R T (number_at f.blocks) C code x (ways_out t f b)
  out = is-out t f num rules numbered x b place

  same : IsSame T (writes_of item) (entered_writes t f i)
  same = same-law t f num rules numbered b i (slice-member f.blocks x b place) inside

  -- a lane that is written has a number, but for reserved ones and those of slots
  pub written-number : (l : Lane) → is_slot l ≡ false → R l ≡ false → Writing item l → (n : ℕ) × (T l ≡ Some n)
  written-number l still free w =
      let z = written-law t f num rules numbered b i (slice-member f.blocks x b place) inside w.0 w.1 (ap R w.2 ∙ free) (ap is_slot w.2 ∙ still) in
      (z.0, ap T (sym w.2) ∙ z.1)

  -- so has one that is read
  pub read-number : (q : Places) (l : Lane) → is_slot l ≡ false → R l ≡ false → Reading R C l item q → (n : ℕ) × (T l ≡ Some n)
  read-number q l still free (inl z) = step.tagged l free (inl z)
  read-number q l still free (inr (a, w, r, kept)) = go r
    where
      own : l ≡ a → Writing item a ⊎ (is_slot a ≡ true) → (n : ℕ) × (T l ≡ Some n)
      own e (inl v) = written-number l still free (v.0, v.1, v.2 ∙ sym e)
      own e (inr v) = absurd (let z = ap is_slot e in cc)

      fed : (l ≡ a) ⊎ ((n : ℕ) × (T l ≡ Some n)) → (n : ℕ) × (T l ≡ Some n)
      fed (inl e) = own e w
      fed (inr z) = z

      stored : (c : Lane) → is_slot c ≡ true → (l ≡ c) ⊎ ((n : ℕ) × (T l ≡ Some n)) → (n : ℕ) × (T l ≡ Some n)
      stored c g (inl e) = absurd (let z = ap is_slot e in cc)
      stored c g (inr z) = z

      go : Reaches item l a → (n : ℕ) × (T l ≡ Some n)
      go (inl g) = fed (step.sources l a free g)
      go (inr (p, k, v, y, e, g, u, ends)) = stored (SlotLane p k v) refl (step.sources l (SlotLane p k v) free g)

  module _ (q : Places) (ss : List Step) (at : At R T (number_at f.blocks) C code x q ss) where
    -- a lane that is live behind the item has a number, and this is live behind the step
    behind : (a : Lane) → R a ≡ false → LiveAfter R C item q a → (m : ℕ) × (T a ≡ Some m) × Live code x (Behind s ss) m
    behind a free (after_next g h) = let z = meets R T (number_at f.blocks) C code stands h x ss at in (z.0, z.1, next z.2)
    behind a free (after_leap {e = e} {a = c} m h g) =
        let out' = leaving s.leaves (ways_out t f b) e (subst (λ es. Member e es) step.exits m) in
        let y = out.forth e out'.1 in
        let begun = subst (λ k. At R T (number_at f.blocks) C code y.0 (found k C) (steps_of code y.0)) (sym y.2) (starts t f num rules numbered x y.0 y.1) in
        let z = meets R T (number_at f.blocks) C code stands h y.0 (steps_of code y.0) begun in
        let same' : a ≡ c = moved-same a c (sym g ∙ out.through e c out'.1 h) in
        (z.0, ap T same' ∙ z.1, leaps out'.0 y.1 z.2)
    behind a free (after_phi {e = e} {w = w} m k g) =
        let out' = leaving s.leaves (ways_out t f b) e (subst (λ es. Member e es) step.exits m) in
        let z = out.phis e w a out'.1 k g free in
        (z.0, z.1, leaps_phi out'.0 z.2)

    module _ (l : Lane) (n : ℕ) (still : is_slot l ≡ false) (tagged : T l ≡ Some n) where
      -- how a number is read
      abbrev pub Counts : Type 0
      Counts = (use_of n s ≡ Certain) ⊎ ((m : ℕ) × (use_of n s ≡ Into m) × Live code x (Behind s ss) m)

      free : R l ≡ false
      free = stands.tagging.free l n tagged

      same-lane-of : (a : Lane) → T a ≡ Some n → a ≡ l
      same-lane-of a e = go (stands.tagging.apart a l n e tagged)
        where
          go : (a ≡ l) ⊎ ((is_slot a ≡ true) × (is_slot l ≡ true)) → a ≡ l
          go (inl g) = g
          go (inr z) = absurd (let h = z.1 in cc)

      pub writes : Writing item l ↔ (is_written n s ≡ true)
      writes = writes-same R num (is_proper t) numbered.numbering item i.id (does is_terminator t i) (entered_reads t f i) (entered_writes t f i) same l n tagged still

      pub early : WritingEarly item l ↔ (is_early n s ≡ true)
      early = early-same R num (is_proper t) numbered.numbering item i.id (does is_terminator t i) (entered_reads t f i) (entered_writes t f i) same l n tagged still

      flow : (a : Lane) (m : ℕ) → Writing item a ⊎ (is_slot a ≡ true) → Live code x (Behind s ss) m → T a ≡ Some m → ((l ≡ a) × (is_written m s ≡ false)) ⊎ ((use_of n s ≡ Into m) ⊎ (use_of n s ≡ Certain)) → Counts
      flow a m (inl w) h e (inl z) =
          let own : m ≡ n = number-same m n (sym e ∙ (ap T (sym z.0) ∙ tagged)) in
          let there : is_written n s ≡ true = writes.0 (w.0, w.1, w.2 ∙ sym z.0) in
          let here : is_written n s ≡ false = subst (λ k. is_written k s ≡ false) own z.1 in
          absurd (cc)
        where
          number-same : (j k : ℕ) → Some j ≡ Some k → j ≡ k
          number-same j k g = cc
      flow a m (inr w) h e (inl z) = absurd (let y = ap is_slot z.0 in cc)
      flow a m w h e (inr (inl u)) = inr (m, u, h)
      flow a m w h e (inr (inr u)) = inl u

      given : (a : Lane) → Writing item a ⊎ (is_slot a ≡ true) → Feeds item l a → (r : Bool) → R a ≡ r → KeptAfter R C item q a → Counts
      given a w g true e kept = inl (step.reads l n tagged (inr (a, e, g)))
      given a w g false e (inl h) = let z = behind a e h in flow a z.0 w z.2 z.1 (step.flows l a n z.0 tagged z.1 g)
      given a w g false e (inr r) = absurd (cc)

      stored : (p k v y : ℕ) → Feeds item l (SlotLane p k v) → KeptAfter R C item q (SlotLane p k y) → Counts
      stored p k v y g (inr r) = absurd (cc)
      stored p k v y g (inl h) =
          let z = behind (SlotLane p k y) refl h in
          let c = step.stores l p k v n tagged still g in
          let own = stands.tagging.slots p k v y c.0 z.0 c.1 z.1 in
          flow (SlotLane p k v) c.0 (inr refl) (subst (λ m. Live code x (Behind s ss) m) (sym own) z.2) c.1 (step.flows l (SlotLane p k v) n c.0 tagged c.1 g)

      forth : Reading R C l item q → Counts
      forth (inl z) = inl (step.reads l n tagged (inl z))
      forth (inr (a, w, inl g, kept)) = given a w g (R a) refl kept
      forth (inr (a, w, inr (p, k, v, y, e, g, u, ends), kept)) = stored p k v y g (subst (λ c. KeptAfter R C item q c) e kept)

      -- a lane that gets what another held is written
      written-of : (a : Lane) → (l ≡ a → ⊥) → Feeds item l a → Writing item a
      written-of a ne g = go (filled-cases (writes_of item) a)
        where
          go : ((w : Write) × Member w (writes_of item) × (w.lane ≡ a) × (filled (writes_of item) a ≡ w.fill)) ⊎ ((filled (writes_of item) a ≡ Moved (FromLane a)) × ((w : Write) → Member w (writes_of item) → w.lane ≡ a → ⊥)) → Writing item a
          go (inl z) = (z.0, z.1, z.2)
          go (inr z) = absurd (ne (moved-same l a (sym g ∙ z.0)))

      read-by : ReadBy R item l → Reading R C l item q
      read-by (inl z) = inl z
      read-by (inr (a, r, g)) = inr (a, inl (written-of a (λ e. let y = ap R e in let z = free in absurd (cc)) g), inl g, inr r)

      -- a lane whose number is written is, or is a slot's
      wrote : (a : Lane) (m : ℕ) → T a ≡ Some m → is_written m s ≡ true → (u : Bool) → is_slot a ≡ u → Writing item a ⊎ (is_slot a ≡ true)
      wrote a m e w true g = inr g
      wrote a m e w false g = inl ((writes-same R num (is_proper t) numbered.numbering item i.id (does is_terminator t i) (entered_reads t f i) (entered_writes t f i) same a m e g).1 w)

      fills : (m : ℕ) → use_of n s ≡ Into m → is_written m s ≡ true
      fills m u = let z = (matched-law t f num rules numbered b i (slice-member f.blocks x b place) inside).filled n m u in ap (λ (o : Option LaneDef). is_present o) z.1

      back : Counts → Reading R C l item q
      back (inl u) = let z = step.certain n u in read-by (subst (ReadBy R item) (same-lane-of z.0 z.1) z.2)
      back (inr (m, u, h)) =
          let z = meets-back R T (number_at f.blocks) C code stands h (ways_out t f b) item q step out at in
          let y = step.moves n m u z.0 z.1 in
          inr (z.0, wrote z.0 m z.1 (fills m u) (is_slot z.0) refl, subst (λ c. Reaches item c z.0) (same-lane-of y.0 y.1) y.2, inl z.2)

      pub counts : Reading R C l item q ↔ Counts
      counts = (forth, back)
