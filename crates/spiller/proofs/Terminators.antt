-- What is known of the place of the terminators of a block.
use Rattle.std.proofs.Common.{◌≡◌, ◌∙◌, ℕ, ◌+◌, suc, Bool, true, false, cond, ◌&&◌, ◌||◌, List, [], ◌∷◌, ◌++◌, Option, Some, None, length, refl, sym, ap, subst, append_assoc, arith}
use Rattle.std.specs.Prelude.{filter, nat_lt, slice_get}
use Rattle.std.specs.List.{AllByRecursion, list_all, list_any}
use Rattle.target_base.specs.declared.types.Effect.{Effect}
use Rattle.target_base.specs.declared.types.Effect.TheVariants as effects
use Rattle.target_base.specs.declared.types.Target.{Target}
use Rattle.target_base.proofs.Tests.{first_of_both, second_of_both}
use Rattle.meaning.specs.Live.{Among as Member, here as first, there as later}
use Rattle.mir_func.specs.declared.func.Instr.{Instr}
use Rattle.mir_func.specs.declared.func.Block.{Block}
use Rattle.mir_func.specs.Value.{Function}
use Rattle.mir_func.specs.Binding.{does, effect_of, is_terminator, passes}
use Rattle.live_laws.proofs.Touch.Roles.{has_roles}
use Rattle.spiller.specs.declared.plan.SpillView.{SpillView}
use Rattle.spiller.specs.declared.remat.UseKey.{UseKey}
use Rattle.spiller.specs.Reaching.{Facts}
use Rattle.spiller.specs.Setting.{Spilling}
use Rattle.spiller.specs.Rematerialised.{all_readings, is_constant, is_rematerialised, places_from, reaches, ways_read}
use Rattle.spiller.specs.Spilled.{becomes, change, place_change}
use Rattle.spiller.specs.Views.{gap_behind, own_setting, spilling_of}
use Rattle.spiller.specs.Planned.{is_move_place}
use Rattle.spiller.specs.Moving.{is_placed}
use Rattle.spiller.specs.Placing.{AreTerminators, IsPlainForm, KnownPlace, LiveAlike, Spillable, last_name}
use Rattle.spiller.proofs.Singles.{block-in, finds, form, given, live, ordered, other-is}
use Rattle.spiller.proofs.ListSeats.{get-seat}

known-of : (test : Effect → Bool) (q : Option Effect) → passes test q ≡ true → (e : Effect) × (q ≡ Some e) × (test e ≡ true)
known-of test None h = absurd (cc)
known-of test (Some e) h = (e, refl, h)

-- what terminators are not

rolled : (e : Effect) → is_terminator e ≡ true → has_roles e ≡ true
rolled effects.Copy h = absurd (cc)
rolled effects.ImplicitDef h = absurd (cc)
rolled effects.Phi h = absurd (cc)
rolled effects.RegSequence h = absurd (cc)
rolled effects.InsertSubreg h = absurd (cc)
rolled e h = refl

placed : (e : Effect) → is_terminator e ≡ true → is_placed e ≡ true
placed effects.Copy h = absurd (cc)
placed effects.Spill h = absurd (cc)
placed effects.Reload h = absurd (cc)
placed effects.ImplicitDef h = absurd (cc)
placed e h = refl

varies : (e : Effect) → is_terminator e ≡ true → is_constant e ≡ false
varies effects.Const h = absurd (cc)
varies effects.Addr h = absurd (cc)
varies e h = refl

-- their place is changed as any other
pub terminators-are : (s : Spilling) (n c : ℕ) (is : List Instr) → list_all (does is_terminator s.target) is ≡ true → change s n c is ≡ place_change s c is
terminators-are s n c [] h = refl
terminators-are s n c (i ∷ j ∷ is) h = refl
terminators-are s n c (i ∷ []) h =
    let z = known-of is_terminator (effect_of s.target i) (first_of_both (does is_terminator s.target i) true h) in
    let none : does is_constant s.target i ≡ false = ap (passes is_constant) z.1 ∙ varies z.0 z.2 in
    other-is s n c i z.0 z.1 (placed z.0 z.2)
    ∙ ap (λ b. cond (b && nat_lt 0 (length (filter (reaches s i) (all_readings s))) && list_all (is_rematerialised s) (filter (reaches s i) (all_readings s))) (becomes []) (place_change s c (i ∷ []))) none

moves-none : (s : Spilling) (is : List Instr) → list_all (does is_terminator s.target) is ≡ true → is_move_place s is ≡ false
moves-none s [] h = refl
moves-none s (i ∷ j ∷ is) h = refl
moves-none s (i ∷ []) h =
    let z = known-of is_terminator (effect_of s.target i) (first_of_both (does is_terminator s.target i) true h) in
    ap (λ q. elim q as (λ q. Bool) [ None ↦ false | Some effects.Copy ↦ true | Some effects.Spill ↦ true | Some x ↦ false ]) z.1 ∙ go z.0 z.2
  where
    go : (e : Effect) → is_terminator e ≡ true → (elim (Some e) as (λ q. Bool) [ None ↦ false | Some effects.Copy ↦ true | Some effects.Spill ↦ true | Some x ↦ false ]) ≡ false
    go effects.Copy h = absurd (cc)
    go effects.Spill h = absurd (cc)
    go e h = refl

-- they are the last place

last-place : (t : Target) (front is : List Instr) (i : Instr) → list_any (does is_terminator t) front ≡ false → does is_terminator t i ≡ true → Member (i ∷ is) (places_from t (front ++ i ∷ is))
last-place t [] is i h g = subst (λ b. Member (i ∷ is) (cond b ((i ∷ is) ∷ []) ((i ∷ []) ∷ places_from t is))) (sym g) first
last-place t (x ∷ front) is i h g = go (does is_terminator t x) h (λ k. last-place t front is i k g)
  where
    go : (b : Bool) → (b || list_any (does is_terminator t) front) ≡ false → (list_any (does is_terminator t) front ≡ false → Member (i ∷ is) (places_from t (front ++ i ∷ is))) → Member (i ∷ is) (cond b ((x ∷ front ++ i ∷ is) ∷ []) ((x ∷ []) ∷ places_from t (front ++ i ∷ is)))
    go true k ih = absurd (cc)
    go false k ih = later (ih k)

-- where they stand

pub record IsLast (is all : List Instr) : Type 0 where
  pub place : ℕ
  pub instr : Instr
  pub there : slice_get all place ≡ Some instr
  pub end : slice_get all (place + 1) ≡ None
  pub named : instr.id ≡ last_name is

nothing-behind : (xs : List Instr) (x : Instr) → slice_get (xs ++ x ∷ []) (length xs + 1) ≡ None
nothing-behind [] x = refl
nothing-behind (z ∷ xs) x = let e : length (z ∷ xs) + 1 ≡ suc (length xs + 1) = omega arith in ap (slice_get ((z ∷ xs) ++ x ∷ [])) e ∙ nothing-behind xs x

last-of : (front is : List Instr) (i : Instr) → IsLast (i ∷ is) (front ++ i ∷ is)
last-of front [] i = record { place = length front; instr = i; there = get-seat front i []; end = nothing-behind front i; named = refl }
last-of front (j ∷ is) i =
    let z = last-of (front ++ i ∷ []) is j in
    let e : (front ++ i ∷ []) ++ j ∷ is ≡ front ++ i ∷ j ∷ is = append_assoc front (i ∷ []) (j ∷ is) in
    record { place = z.place; instr = z.instr; there = subst (λ xs. slice_get xs z.place ≡ Some z.instr) e z.there; end = subst (λ xs. slice_get xs (z.place + 1) ≡ None) e z.end; named = z.named }

module _ (view : SpillView) (facts : Facts) (answer : UseKey → Option ℕ) (goes : ℕ → Bool) (w : Spillable view facts answer goes) where
  abbrev t : Target
  t = view.target.now

  abbrev f : Function
  f = view.live.now.func

  abbrev s : Spilling
  s = spilling_of view view.slot facts

  module _ (p : ℕ) (b : Block) (is_block : slice_get f.blocks p ≡ Some b) where
    all-forms : (front is : List Instr) → b.instrs ≡ front ++ is → list_all (does is_terminator t) is ≡ true → AllByRecursion IsPlainForm is × AllByRecursion (LiveAlike facts (own_setting view).facts) is
    all-forms front [] e h = (tt, tt)
    all-forms front (i ∷ is) e h =
        let at : slice_get b.instrs (length front) ≡ Some i = ap (λ xs. slice_get xs (length front)) e ∙ get-seat front i is in
        let z = known-of is_terminator (effect_of t i) (first_of_both (does is_terminator t i) (list_all (does is_terminator t) is) h) in
        let more = all-forms (front ++ i ∷ []) is (e ∙ sym (append_assoc front (i ∷ []) is)) (second_of_both (does is_terminator t i) (list_all (does is_terminator t) is) h) in
        ((form view facts answer goes w p (length front) b i is_block at z.0 z.1 (rolled z.0 z.2), more.0), (live view facts answer goes w p (length front) b i is_block at, more.1))

    pub terminators-known : (is : List Instr) → AreTerminators t b is → KnownPlace view facts answer is (last_name is) (gap_behind b None)
    terminators-known is a = go is a.first a.rest a.front a.is_some a.parts a.plain a.all
      where
        go : (is : List Instr) (i : Instr) (rest front : List Instr) → is ≡ i ∷ rest → b.instrs ≡ front ++ is → list_any (does is_terminator t) front ≡ false → list_all (does is_terminator t) is ≡ true → KnownPlace view facts answer is (last_name is) (gap_behind b None)
        go is i rest front e parts plain all =
            subst (λ xs. KnownPlace view facts answer xs (last_name xs) (gap_behind b None)) (sym e) (by (parts ∙ ap (λ xs. front ++ xs) e) (subst (λ xs. list_all (does is_terminator t) xs ≡ true) e all))
          where
            by : b.instrs ≡ front ++ i ∷ rest → list_all (does is_terminator t) (i ∷ rest) ≡ true → KnownPlace view facts answer (i ∷ rest) (last_name (i ∷ rest)) (gap_behind b None)
            by parts all =
                let z = last-of front rest i in
                let at : slice_get b.instrs z.place ≡ Some z.instr = ap (λ xs. slice_get xs z.place) parts ∙ z.there in
                let end : slice_get b.instrs (z.place + 1) ≡ None = ap (λ xs. slice_get xs (z.place + 1)) parts ∙ z.end in
                let both = all-forms front (i ∷ rest) parts all in
                let m : Member (i ∷ rest) (places_from t b.instrs) = subst (λ xs. Member (i ∷ rest) (places_from t xs)) (sym parts) (last-place t front rest i plain (first_of_both (does is_terminator t i) (list_all (does is_terminator t) rest) all)) in
                record {
                  finds = finds view facts answer goes w;
                  ordered = ordered view facts answer goes w;
                  behind = record { position = p; place = z.place; block = b; instr = z.instr; finds = finds view facts answer goes w; is_block = is_block; is_instr = at; named = z.named; is_gap = ap (gap_behind b) (sym end) };
                  forms = both.0;
                  live = both.1;
                  given = given view facts answer goes w b (i ∷ rest) (block-in view facts answer goes w p z.place b z.instr is_block at) m (moves-none s (i ∷ rest) all) (ways_read s (i ∷ rest)) (λ x h. h);
                }
