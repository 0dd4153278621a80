-- Which lanes a step writes, and which of them early.
use Rattle.std.proofs.Common.{◌≡◌, ◌⊎◌, ℕ, Bool, true, false, cond, List, [], ◌∷◌, ◌++◌, Option, Some, None, refl, sym, ap, ◌∙◌, subst, inl, inr, eqb-true, append-nil}
use Rattle.std.specs.Prelude.{◌↔◌, nat_eq}
use Rattle.std.specs.List.{cons_option}
use Rattle.meaning.specs.declared.types.Lane.{Lane}
use Rattle.meaning.specs.declared.types.Source.{Source}
use Rattle.meaning.specs.declared.types.Source.TheVariants.{Undef}
use Rattle.meaning.specs.declared.types.Fill.TheVariants.{Moved}
use Rattle.meaning.specs.declared.types.Write.{Write}
use Rattle.meaning.specs.Lanes.{Writes, Reads}
use Rattle.meaning.specs.Code.{Item}
use Rattle.meaning.specs.Live.{Among as Member, here as first, there as later, writes_of, is_slot, Writing as LaneWriting, WritingEarly}
use Rattle.mir_meaning.specs.Items.{write, moved, undefined}
use Rattle.mir_meaning.specs.declared.writing.LaneDef.{LaneDef}
use Rattle.mir_meaning.specs.Paths.{Step, writing_of, is_present, is_written}
use Rattle.mir_meaning.specs.Stands.{Tags}
use Rattle.instr_effects.specs.Owners.{owner_of}
use Rattle.instr_effects.specs.Acts.{act_of, acts_of}
use Rattle.instr_effects.specs.Steps.{Numbering, writing, act_writings}
use Rattle.instr_effects.specs.Stepping.{tag_of, step_of, IsNumbering}
use Rattle.instr_effects.proofs.Members.{member-none, member-elim, in-either, map-of}
use Rattle.live_laws.specs.Effects.Coded.{is_early}
use Rattle.live_laws.proofs.Effects.Moving.{some-same, writing-in, writing-from}
use Rattle.live_laws.proofs.Effects.Silent.{one-lane}

-- all of these writes are early, or none is
abbrev pub Uniform : Bool → Writes → Type 0
Uniform b ws = (w : Write) → Member w ws → w.early ≡ b

pub uniform-none : (b : Bool) → Uniform b []
uniform-none b w m = absurd (member-none w m)

pub uniform-undefined : (b : Bool) (ls : List Lane) → Uniform b (undefined b ls)
uniform-undefined b ls w m = let z = map-of (λ l. write b l (Moved Undef)) w ls m in ap (λ v. v.early) z.2

pub uniform-moved : (b : Bool) (ds : List Lane) (ss : List Source) → Uniform b (moved b ds ss)
uniform-moved b [] ss w m = absurd (member-none w m)
uniform-moved b (d ∷ ds) [] w m = absurd (member-none w m)
uniform-moved b (d ∷ ds) (s ∷ ss) w m = member-elim w (write b d (Moved s)) (moved b ds ss) (λ e. ap (λ v. v.early) e) (λ k. uniform-moved b ds ss w k) m

pub uniform-join : (b : Bool) (ws vs : Writes) → Uniform b ws → Uniform b vs → Uniform b (ws ++ vs)
uniform-join b ws vs f g w m = go (in-either w ws vs m)
  where
    go : Member w ws ⊎ Member w vs → w.early ≡ b
    go (inl k) = f w k
    go (inr k) = g w k

-- a lane is written
abbrev pub Wrote : Lane → Writes → Type 0
Wrote l ws = (w : Write) × Member w ws × (w.lane ≡ l)

-- a lane is written early
abbrev pub WroteEarly : Lane → Writes → Type 0
WroteEarly l ws = (w : Write) × Member w ws × (w.lane ≡ l) × (w.early ≡ true)

-- the first writing of a number is that of a write
first-from : (num : Numbering) (n : ℕ) (w : LaneDef) (ws : Writes) → writing_of n (act_writings num (acts_of ws)) ≡ Some w → (v : Write) × Member v ws × (num (owner_of v.lane) ≡ Some n) × (w.early ≡ v.early)
first-from num n w [] e = absurd (cc)
first-from num n w (v ∷ ws) e = go (num (owner_of v.lane)) refl e (first-from num n w ws)
  where
    rest : List LaneDef
    rest = act_writings num (acts_of ws)

    by : (k : ℕ) → num (owner_of v.lane) ≡ Some k → (b : Bool) → nat_eq k n ≡ b → cond b (Some (writing num (act_of v) k)) (writing_of n rest) ≡ Some w → (writing_of n rest ≡ Some w → (x : Write) × Member x ws × (num (owner_of x.lane) ≡ Some n) × (w.early ≡ x.early)) → (x : Write) × Member x (v ∷ ws) × (num (owner_of x.lane) ≡ Some n) × (w.early ≡ x.early)
    by k f true g h ih = (v, first, f ∙ ap Some (eqb-true k n g), ap (λ x. x.early) (sym (some-same (writing num (act_of v) k) w h)))
    by k f false g h ih = let z = ih h in (z.0, later z.1, z.2, z.3)

    go : (q : Option ℕ) → num (owner_of v.lane) ≡ q → writing_of n (cons_option (elim q [ None ↦ None | Some k ↦ Some (writing num (act_of v) k) ]) rest) ≡ Some w → (writing_of n rest ≡ Some w → (x : Write) × Member x ws × (num (owner_of x.lane) ≡ Some n) × (w.early ≡ x.early)) → (x : Write) × Member x (v ∷ ws) × (num (owner_of x.lane) ≡ Some n) × (w.early ≡ x.early)
    go None f h ih = let z = ih h in (z.0, later z.1, z.2, z.3)
    go (Some k) f h ih = by k f (nat_eq k n) refl h ih

-- of writings in two lists the first of the first list counts, where there is one
first-left : (num : Numbering) (n : ℕ) (ws vs : Writes) → is_present (writing_of n (act_writings num (acts_of ws))) ≡ true → writing_of n (act_writings num (acts_of (ws ++ vs))) ≡ writing_of n (act_writings num (acts_of ws))
first-left num n [] vs e = absurd (cc)
first-left num n (w ∷ ws) vs e = go (num (owner_of w.lane)) e (first-left num n ws vs)
  where
    by : (k : ℕ) (b : Bool) → is_present (cond b (Some (writing num (act_of w) k)) (writing_of n (act_writings num (acts_of ws)))) ≡ true → (is_present (writing_of n (act_writings num (acts_of ws))) ≡ true → writing_of n (act_writings num (acts_of (ws ++ vs))) ≡ writing_of n (act_writings num (acts_of ws))) → cond b (Some (writing num (act_of w) k)) (writing_of n (act_writings num (acts_of (ws ++ vs)))) ≡ cond b (Some (writing num (act_of w) k)) (writing_of n (act_writings num (acts_of ws)))
    by k true h ih = refl
    by k false h ih = ih h

    go : (q : Option ℕ) → is_present (writing_of n (cons_option (elim q [ None ↦ None | Some k ↦ Some (writing num (act_of w) k) ]) (act_writings num (acts_of ws)))) ≡ true → (is_present (writing_of n (act_writings num (acts_of ws))) ≡ true → writing_of n (act_writings num (acts_of (ws ++ vs))) ≡ writing_of n (act_writings num (acts_of ws))) → writing_of n (cons_option (elim q [ None ↦ None | Some k ↦ Some (writing num (act_of w) k) ]) (act_writings num (acts_of (ws ++ vs)))) ≡ writing_of n (cons_option (elim q [ None ↦ None | Some k ↦ Some (writing num (act_of w) k) ]) (act_writings num (acts_of ws)))
    go None h ih = ih h
    go (Some k) h ih = by k (nat_eq k n) h ih

-- what an item writes, and what is entered for it: the same lanes, and of them the same early; the first writes alone may be early,
-- and two of one lane are both early, or neither is
pub record IsSame (tag : Tags) (W E : Writes) : Type 0 where
  pub results : Writes
  pub others : Writes
  pub parted : E ≡ results ++ others
  pub agreed : (l : Lane) (n : ℕ) → tag l ≡ Some n → (v w : Write) → Member v results → Member w results → v.lane ≡ l → w.lane ≡ l → v.early ≡ w.early
  pub late_others : Uniform false others
  pub forth : (l : Lane) (n : ℕ) → tag l ≡ Some n → is_slot l ≡ false → Wrote l W → Wrote l E
  pub back : (l : Lane) (n : ℕ) → tag l ≡ Some n → is_slot l ≡ false → Wrote l E → Wrote l W
  pub early : (l : Lane) (n : ℕ) → tag l ≡ Some n → is_slot l ≡ false → WroteEarly l W → WroteEarly l results
  pub only : (l : Lane) (n : ℕ) → tag l ≡ Some n → is_slot l ≡ false → WroteEarly l results → WroteEarly l W

pub uniform-same : (tag : Tags) (b : Bool) (W E : Writes) → Uniform b W → Uniform b E → ((l : Lane) (n : ℕ) → tag l ≡ Some n → is_slot l ≡ false → Wrote l W → Wrote l E) → ((l : Lane) (n : ℕ) → tag l ≡ Some n → is_slot l ≡ false → Wrote l E → Wrote l W) → IsSame tag W E
uniform-same tag b W E uW uE forth back = record {
  results = E;
  others = [];
  parted = sym (append-nil E);
  agreed = λ l n t v w mv mw e g. uE v mv ∙ sym (uE w mw);
  late_others = uniform-none false;
  forth = forth;
  back = back;
  early = λ l n t s z. let y = forth l n t s (z.0, z.1, z.2) in (y.0, y.1, y.2, uE y.0 y.1 ∙ sym (uW z.0 z.1) ∙ z.3);
  only = λ l n t s z. let y = back l n t s (z.0, z.1, z.2) in (y.0, y.1, y.2, uW y.0 y.1 ∙ sym (uE z.0 z.1) ∙ z.3);
}

module _ (reserved : Lane → Bool) (num : Numbering) (proper : Lane → Bool) (names : IsNumbering reserved num) where
  abbrev T : Tags
  T = tag_of num proper

  tag-number : (l : Lane) (n : ℕ) → T l ≡ Some n → num (owner_of l) ≡ Some n
  tag-number l n e = go (proper l) e
    where
      go : (b : Bool) → cond b (num (owner_of l)) None ≡ Some n → num (owner_of l) ≡ Some n
      go true f = f
      go false f = absurd (cc)

  -- a lane of a number
  lane-of : (l a : Lane) (n : ℕ) → T l ≡ Some n → is_slot l ≡ false → num (owner_of a) ≡ Some n → a ≡ l
  lane-of l a n e s f = sym (one-lane l a (names.names (owner_of l) (owner_of a) n (tag-number l n e) f) s)

  module _ (x : Item) (id : ℕ) (leaves : Bool) (rs : Reads) (E : Writes) (same : IsSame T (writes_of x) E) (l : Lane) (n : ℕ) (tagged : T l ≡ Some n) (still : is_slot l ≡ false) where
    abbrev s : Step
    s = step_of num id leaves rs E

    pub writes-same : LaneWriting x l ↔ (is_written n s ≡ true)
    writes-same = (
      (λ z. let y = same.forth l n tagged still z in writing-in num y.0 n E y.1 (ap (λ a. num (owner_of a)) y.2 ∙ tag-number l n tagged)),
      (λ e. let y = writing-from num n E e in same.back l n tagged still (y.0, y.1, lane-of l y.0.lane n tagged still y.2)),
    )

    pub early-same : WritingEarly x l ↔ (is_early n s ≡ true)
    early-same = ((λ z. forth (same.early l n tagged still z)), (λ e. back (writing_of n s.writes) refl e))
      where
        forth : WroteEarly l same.results → is_early n (step_of num id leaves rs E) ≡ true
        forth y =
            let h = writing-in num y.0 n same.results y.1 (ap (λ a. num (owner_of a)) y.2 ∙ tag-number l n tagged) in
            at (writing_of n (act_writings num (acts_of same.results))) refl h (ap (λ ws. writing_of n (act_writings num (acts_of ws))) same.parted ∙ first-left num n same.results same.others h)
          where
            at : (q : Option LaneDef) → writing_of n (act_writings num (acts_of same.results)) ≡ q → is_present (writing_of n (act_writings num (acts_of same.results))) ≡ true → writing_of n (act_writings num (acts_of E)) ≡ writing_of n (act_writings num (acts_of same.results)) → elim (writing_of n (act_writings num (acts_of E))) [ None ↦ false | Some w ↦ w.early ] ≡ true
            at None f h g = absurd (let k = ap (λ (p : Option LaneDef). is_present p) f in cc)
            at (Some w) f h g =
                let v = first-from num n w same.results f in
                ap (λ (p : Option LaneDef). elim p [ None ↦ false | Some w ↦ w.early ]) (g ∙ f) ∙ v.3 ∙ same.agreed l n tagged v.0 y.0 v.1 y.1 (lane-of l v.0.lane n tagged still v.2) y.2 ∙ y.3

        back : (q : Option LaneDef) → writing_of n (act_writings num (acts_of E)) ≡ q → elim q [ None ↦ false | Some w ↦ w.early ] ≡ true → WroteEarly l (writes_of x)
        back None f e = absurd (cc)
        back (Some w) f e =
            let v = first-from num n w E f in
            go v.0 (lane-of l v.0.lane n tagged still v.2) (sym v.3 ∙ e) (in-either v.0 same.results same.others (subst (Member v.0) same.parted v.1))
          where
            go : (v : Write) → v.lane ≡ l → v.early ≡ true → Member v same.results ⊎ Member v same.others → WroteEarly l (writes_of x)
            go v a h (inl m) = same.only l n tagged still (v, m, a, h)
            go v a h (inr m) = absurd (let k = same.late_others v m in cc)
