-- What is known of definitions that reach a reading: where it isn't rematerialised none of them is gone, and else one alone is there.
use Rattle.std.proofs.Common.{◌≡◌, ◌∷◌, ◌∙◌, ◌&&◌, ◌<◌, ◌+◌, not, ℕ, Bool, true, false, cond, List, Some, None, filter, flat_map, length, refl, sym, ap, subst, arith, eqb, eqb-true, []}
use Rattle.std.specs.Prelude.{nat_lt}
use Rattle.std.specs.List.{list_all, list_any}
use Rattle.std.proofs.lemmas.Bool.{ltb-true}
use Rattle.target_base.specs.declared.types.Target.{Target}
use Rattle.target_base.proofs.Tests.{second_of_both}
use Rattle.meaning.specs.declared.types.Lane.TheVariants.{VirtualLane}
use Rattle.meaning.specs.Code.{Code, Item}
use Rattle.meaning.specs.Live.{Among as Member, here as first, there as later}
use Rattle.mir_func.specs.declared.func.Instr.{Instr}
use Rattle.mir_func.specs.declared.func.Block.{Block}
use Rattle.mir_func.specs.Value.{Function}
use Rattle.mir_func.specs.Edits.{instr_place}
use Rattle.mir_func.specs.Binding.{does}
use Rattle.mir_meaning.specs.Points.{AtFirst, block_rest, from_instr, has_instr}
use Rattle.mir_meaning.specs.Registers.{is_reserved}
use Rattle.instr_effects.proofs.Members.{filter-in, flat-in, member-elim, member-none}
use Rattle.live_laws.proofs.Effects.Lists.{all-of, any-in}
use Rattle.live_laws.proofs.Effects.Moving.{some-same}
use Rattle.spiller.specs.Reaching.{AreFacts, Brings, Reads}
use Rattle.spiller.specs.Rematerialised.{Reading, all_readings, if_serves, is_constant, is_rematerialised, reaches, reaching, repeatable_class, repeated_for, serves}
use Rattle.spiller.specs.Setting.{Spilling}
use Rattle.spill_laws.specs.Standing.{IsBrought, IsStored, code_before, code_from}

-- some instruction has an id at which code stands

named-in : (id : ℕ) (is : List Instr) → instr_place id is < length is → (i : Instr) × Member i is × (i.id ≡ id)
named-in id [] h = absurd (omega arith)
named-in id (i ∷ is) h = go (eqb i.id id) refl h (named-in id is)
  where
    go : (q : Bool) → eqb i.id id ≡ q → cond (not q) (1 + instr_place id is) 0 < length (i ∷ is) → (instr_place id is < length is → (j : Instr) × Member j is × (j.id ≡ id)) → (j : Instr) × Member j (i ∷ is) × (j.id ≡ id)
    go true e g ih = (i, first, eqb-true i.id id e)
    go false e g ih = let z = ih (omega arith) in (z.0, later z.1, z.2)

pub record Named (id : ℕ) (bs : List Block) : Type 0 where
  pub block : Block
  pub instr : Instr
  pub there : Member block bs
  pub inside : Member instr block.instrs
  pub is : instr.id ≡ id

pub named-by : (t : Target) (f : Function) (id : ℕ) (bs : List Block) (P : Item → Code → Type 0) → AtFirst P (from_instr t f id bs) → Named id bs
named-by t f id [] P x = absurd x
named-by t f id (b ∷ bs) P x = go (has_instr id b) refl x (named-by t f id bs P)
  where
    go : (q : Bool) → has_instr id b ≡ q → AtFirst P (cond q (block_rest t f b bs (instr_place id b.instrs)) (from_instr t f id bs)) → (AtFirst P (from_instr t f id bs) → Named id bs) → Named id (b ∷ bs)
    go true e y ih = let z = named-in id b.instrs (ltb-true (instr_place id b.instrs) (length b.instrs) e) in record { block = b; instr = z.0; there = first; inside = z.1; is = z.2 }
    go false e y ih = let z = ih y in record { block = z.block; instr = z.instr; there = later z.there; inside = z.inside; is = z.is }

module _ (s : Spilling) (facts : AreFacts s.target s.func s.range s.facts) (i : Instr) (x : Item) (p : Code) (from : code_from s i.id ≡ x ∷ p) (k : ℕ) (reads : Reads (is_reserved s.target) (code_before s) (VirtualLane s.range k) x p) where
  told : (d : ℕ) → IsBrought s d k (x ∷ p) → s.facts.reaches d k i.id ≡ true
  told d b = (facts.reach (d, k, i.id)).1 (
    subst (λ q. AtFirst (λ j r. Brings (code_before s) (VirtualLane s.range k) j r q) (code_from s d)) (sym from) b,
    subst (AtFirst (Reads (is_reserved s.target) (code_before s) (VirtualLane s.range k))) (sym from) reads,
  )

  module _ (r : Reading) (by : Member i r.by) (lanes : Member k r.lanes) where
    reaches-it : (d : Instr) → IsBrought s d.id k (x ∷ p) → reaches s d r ≡ true
    reaches-it d b = any-in (λ j. list_any (λ n. s.facts.reaches d.id n j.id) r.lanes) i r.by by (any-in (λ n. s.facts.reaches d.id n i.id) k r.lanes lanes (told d.id b))

    -- a reading that isn't rematerialised
    pub reading-stored : Member r (all_readings s) → repeated_for s r ≡ None → IsStored s k (x ∷ p)
    reading-stored known plain d b gone =
        let e = gone.instr in
        let rs = filter (reaches s e) (all_readings s) in
        let told-all : list_all (is_rematerialised s) rs ≡ true = second_of_both (does is_constant s.target e && nat_lt 0 (length rs)) (list_all (is_rematerialised s) rs) gone.needless in
        let one : is_rematerialised s r ≡ true = all-of (is_rematerialised s) r rs (filter-in (reaches s e) r (all_readings s) known (reaches-it e (subst (λ n. IsBrought s n k (x ∷ p)) (sym gone.named) b))) told-all in
        let none : is_rematerialised s r ≡ false = ap (λ q. elim q as (λ q. Bool) [ None ↦ false | Some d ↦ true ]) plain in
        cc

    -- one that is: its definition alone is there
    pub reading-repeated : (e : Instr) → repeated_for s r ≡ Some e → (d : ℕ) → IsBrought s d k (x ∷ p) → d ≡ e.id
    reading-repeated e g d b =
        let z = named-by s.target s.func d s.func.blocks _ b in
        let m : Member z.instr (reaching s r) = filter-in (λ j. reaches s j r) z.instr (flat_map (λ b. b.instrs) s.func.blocks) (flat-in (λ (b : Block). b.instrs) z.instr z.block s.func.blocks z.there z.inside) (reaches-it z.instr (subst (λ n. IsBrought s n k (x ∷ p)) (sym z.is) b)) in
        sym z.is ∙ ap (λ (j : Instr). j.id) (alone (reaching s r) z.instr g m)
      where
        alone : (ds : List Instr) (j : Instr) → if_serves s.target r.wish ds ≡ Some e → Member j ds → j ≡ e
        alone [] j h m = absurd (member-none j m)
        alone (y ∷ []) j h m = member-elim j y [] (λ q. q ∙ by-test (serves s.target r.wish (repeatable_class s.target y)) h) (λ n. absurd (member-none j n)) m
          where
            by-test : (c : Bool) → cond c (Some y) None ≡ Some e → y ≡ e
            by-test true h = some-same y e h
            by-test false h = absurd (cc)
        alone (y ∷ u ∷ ys) j h m = absurd (cc)
