-- Readings that are listed one after the other.
use Rattle.std.proofs.Common.{◌≡◌, ◌∙◌, ℕ, zero, suc, ◌+◌, ◌<◌, ◌≤◌, Bool, true, false, cond, not, ◌&&◌, ◌||◌, List, [], ◌∷◌, ◌++◌, Option, Some, None, get_or, drop, flat_map, length, map, take, refl, sym, ap, subst, append_assoc, arith, eqb-true}
use Rattle.std.specs.declared.result.Result.{Result}
use Rattle.std.specs.Prelude.{Err, IfOk, Ok, filter, filter_map, is_some, nat_eq, option_and_then, option_map}
use Rattle.std.specs.List.{AllByRecursion, cons_option, list_any}
use Rattle.std.proofs.lemmas.List.{append-nil, map-append, take_all, take_more}
use Rattle.std.proofs.lemmas.List.Elements.{filter-append}
use Rattle.std.specs.Ordering.{nat_cmp}
use Rattle.std.specs.BTreeSet.{insert_key}
use Rattle.meaning.specs.Live.{Among as Member, here as first, there as later}
use Rattle.target_base.specs.declared.types.Role.{Role}
use Rattle.target_base.specs.declared.types.Effect.{Effect}
use Rattle.target_base.specs.declared.types.Effect.TheVariants as effects
use Rattle.target_base.specs.Rules.{is_copy, is_spill}
use Rattle.mir_func.specs.declared.func.Instr.{Instr}
use Rattle.mir_func.specs.declared.func.Loc.{Loc}
use Rattle.mir_func.specs.declared.func.Loc.TheVariants.{Virtual, Fixed}
use Rattle.mir_func.specs.declared.func.Operand.{Operand}
use Rattle.mir_func.specs.declared.func.Operand.TheVariants as operands
use Rattle.mir_func.specs.declared.func.RegOp.{RegOp}
use Rattle.mir_func.specs.Binding.{Bound, TiedPair, after_first, bound, explicit_bound, explicit_roles, first_role, is_virtual, paired_with, register_at, roles_of, tied_number, tied_pair}
use Rattle.mir_meaning.specs.Paths.{has}
use Rattle.mir_meaning.specs.Places.{Variable, each_once, is_defining, same_class, same_use}
use Rattle.mir_meaning.specs.Points.{is_range}
use Rattle.mir_func.specs.Binding.{same_index}
use Rattle.spiller.specs.declared.plan.SpillView.{SpillView}
use Rattle.spiller.specs.declared.reaching.Definition.{Definition}
use Rattle.spiller.specs.declared.remat.RematDemand.{RematDemand}
use Rattle.spiller.specs.declared.remat.RematUse.{RematUse}
use Rattle.spiller.specs.declared.remat.RematConstraint.{RematConstraint}
use Rattle.spiller.specs.declared.remat.RematConstraint.TheVariants as constraints
use Rattle.target_base.specs.declared.types.IndexId.{IndexId}
use Rattle.instr_effects.proofs.Loops.{get-same}
use Rattle.live_lanes.proofs.Flowing.{or-false}
use Rattle.live_edits.proofs.RunIds.{has-inserted}
use Rattle.spiller.specs.declared.roles.IndexedClass.{IndexedClass}
use Rattle.spiller.specs.Additions.{own_uses, seated_operands}
use Rattle.spiller.specs.Listed.{AreKeyed, none, more, Asks, IsJudged, IsKeyed, Keyed, Lists, ListsOne, keyed_copy, keyed_effect, keyed_move, keyed_operands, keyed_tied, keyed_tied_uses, keyed_uses, keyed_way, readers, tied_own}
use Rattle.spiller.specs.Placing.{IsPlainForm}
use Rattle.spiller.specs.Planned.{copy_key, way_key}
use Rattle.spiller.specs.Reaching.{Facts}
use Rattle.spiller.specs.Rematerialised.{Within, copy_wish, if_whole, own_variables, tied_readings, ways_read}
use Rattle.spiller.specs.Setting.{Spilling, is_own, own_lanes}
use Rattle.spiller.specs.Spilled.{place_name}
use Rattle.spiller.specs.Views.{spilling_of, way_of, wish_of}
use Rattle.spiller.proofs.OwnUses.{SkipsFixed, is_plain, plain-uses, told-in-order, ways-are}
use Rattle.spiller.proofs.Steps.{flat-take}
use Rattle.spiller.proofs.Walks.{told-more, told-all}

-- lists that are joined

keyed-join : (s : Spilling) (ks js : List Keyed) (us ws : List RematUse) → AreKeyed s ks us → AreKeyed s js ws → AreKeyed s (ks ++ js) (us ++ ws)
keyed-join s ks js us ws none h = h
keyed-join s ks js us ws (more {k = k} {ks = ks'} {u = u} {us = us'} one rest) h = more one (keyed-join s ks' js us' ws rest h)

all-join : {X : Type 0} (P : X → Type 0) (xs ys : List X) → AllByRecursion P xs → AllByRecursion P ys → AllByRecursion P (xs ++ ys)
all-join P [] ys h g = g
all-join P (x ∷ xs) ys h g = (h.0, all-join P xs ys h.1 g)

module _ (view : SpillView) (ds : List Definition) where
  pub lists-none : (us : List RematUse) → Lists view ds (λ s. []) us us
  lists-none us = record { more = []; grown = sym (append-nil us); keyed = λ slot facts. none; judged = tt }

  pub lists-same : (ks js : Spilling → List Keyed) (old new : List RematUse) → ((slot : ℕ) (facts : Facts) → ks (spilling_of view slot facts) ≡ js (spilling_of view slot facts)) → Lists view ds ks old new → Lists view ds js old new
  lists-same ks js old new e h = record {
    more = h.more;
    grown = h.grown;
    keyed = λ slot facts. subst (λ xs. AreKeyed (spilling_of view slot facts) xs h.more) (e slot facts) (h.keyed slot facts);
    judged = h.judged;
  }

  pub lists-then : (ks js : Spilling → List Keyed) (old mid new : List RematUse) → Lists view ds ks old mid → Lists view ds js mid new → Lists view ds (λ s. ks s ++ js s) old new
  lists-then ks js old mid new h g = record {
    more = h.more ++ g.more;
    grown = g.grown ∙ (ap (λ xs. xs ++ g.more) h.grown ∙ append_assoc old h.more g.more);
    keyed = λ slot facts. keyed-join (spilling_of view slot facts) (ks (spilling_of view slot facts)) (js (spilling_of view slot facts)) h.more g.more (h.keyed slot facts) (g.keyed slot facts);
    judged = all-join (IsJudged view ds) h.more g.more h.judged g.judged;
  }

  -- what is listed so far for things one by one, and for one more
  pub lists-step : {X : Type 0} (g : Spilling → X → List Keyed) (xs : List X) (k : ℕ) (x y : X) (old mid new : List RematUse) → k < length xs → x ≡ get_or xs k x → y ≡ x → Lists view ds (λ s. flat_map (g s) (take k xs)) old mid → Lists view ds (λ s. g s y) mid new → Lists view ds (λ s. flat_map (g s) (take (k + 1) xs)) old new
  lists-step g xs k x y old mid new h at same a c =
      let b : Lists view ds (λ s. g s x) mid new = lists-same (λ s. g s y) (λ s. g s x) mid new (λ slot facts. ap (g (spilling_of view slot facts)) same) c in
      lists-same (λ s. flat_map (g s) (take k xs) ++ g s x) (λ s. flat_map (g s) (take (k + 1) xs)) old new
      (λ slot facts. sym (flat-take (g (spilling_of view slot facts)) xs k x h at))
      (lists-then (λ s. flat_map (g s) (take k xs)) (λ s. g s x) old mid new a b)

  -- the same of things that are copied
  pub lists-got : {X : Type 0} (g : Spilling → X → List Keyed) (xs : List X) (k : ℕ) (d : X) (old mid new : List RematUse) → k < length xs → Lists view ds (λ s. flat_map (g s) (take k xs)) old mid → Lists view ds (λ s. g s (get_or xs k d)) mid new → Lists view ds (λ s. flat_map (g s) (take (k + 1) xs)) old new
  lists-got g xs k d old mid new h a c = lists-step g xs k (get_or xs k d) (get_or xs k d) old mid new h (get-same xs k d (get_or xs k d) h) refl a c

  -- what is listed only where the operand is the range
  pub lists-if : (o : RegOp) (k : Spilling → Keyed) (old new : List RematUse) → is_range view.v o.loc ≡ true → Lists view ds (λ s. k s ∷ []) old new → Lists view ds (λ s. cond (is_own s o) (k s ∷ []) []) old new
  lists-if o k old new e = lists-same (λ s. k s ∷ []) (λ s. cond (is_own s o) (k s ∷ []) []) old new (λ slot facts. sym (ap (λ b. cond b (k (spilling_of view slot facts) ∷ []) []) e))

  pub lists-if-not : (o : RegOp) (k : Spilling → Keyed) (us : List RematUse) → is_range view.v o.loc ≡ false → Lists view ds (λ s. cond (is_own s o) (k s ∷ []) []) us us
  lists-if-not o k us e = lists-same (λ s. []) (λ s. cond (is_own s o) (k s ∷ []) []) us us (λ slot facts. sym (ap (λ b. cond b (k (spilling_of view slot facts) ∷ []) []) e)) (lists-none us)

  pub lists-all : {X : Type 0} (g : Spilling → X → List Keyed) (xs : List X) (k : ℕ) (old new : List RematUse) → length xs ≤ k → Lists view ds (λ s. flat_map (g s) (take k xs)) old new → Lists view ds (λ s. flat_map (g s) xs) old new
  lists-all g xs k old new h = lists-same (λ s. flat_map (g s) (take k xs)) (λ s. flat_map (g s) xs) old new (λ slot facts. ap (flat_map (g (spilling_of view slot facts))) (take_all k xs h))

  -- one reading that asks what is listed
  pub lists-one : (k : Spilling → Keyed) (demand : RematDemand) (ids : List ℕ) (old new : List RematUse) → ((slot : ℕ) (facts : Facts) → Asks (spilling_of view slot facts) (k (spilling_of view slot facts)) demand ids) → ListsOne view ds demand ids old new → Lists view ds (λ s. k s ∷ []) old new
  lists-one k demand ids old new asks h = record {
    more = h.one ∷ [];
    grown = h.grown;
    keyed = λ slot facts.
        let s = spilling_of view slot facts in
        let a = asks slot facts in
        more (record {
          key = ap (λ (d : RematDemand). d.key) h.demand_is ∙ a.key;
          is = record {
            by = λ i. ap (has i) (h.by_is ∙ sym a.by);
            lanes = a.lanes ∙ ap (λ (d : RematDemand). own_lanes s d.index) (sym h.demand_is);
            wish = a.wish ∙ ap (λ (d : RematDemand). wish_of d.wish) (sym h.demand_is);
          };
        }) none;
    judged = (h.judged, tt);
  }

-- instructions that read in a way

any-plain : (x : Variable) (vs : List Variable) → is_plain x ≡ true → list_any (same_use x) (filter is_plain vs) ≡ list_any (same_use x) vs
any-plain x [] h = refl
any-plain x (v ∷ vs) h = go (is_defining v.kind) refl (any-plain x vs h)
  where
    not-or : (a : Bool) → not a ≡ true → (b : Bool) → b ≡ true → not (a || b) ≡ false
    not-or true e b f = absurd (cc)
    not-or false e b f = ap not f

    go : (b : Bool) → is_defining v.kind ≡ b → list_any (same_use x) (filter is_plain vs) ≡ list_any (same_use x) vs → list_any (same_use x) (cond (not b) (v ∷ filter is_plain vs) (filter is_plain vs)) ≡ (same_use x v || list_any (same_use x) vs)
    go true e ih = ih ∙ ap (λ c. (c && nat_eq x.range v.range && same_index x.index v.index && same_class x.class v.class) || list_any (same_use x) vs) (sym (not-or (is_defining x.kind) h (is_defining v.kind) e))
    go false e ih = ap (λ c. same_use x v || c) ih

pub readers-are : (s : Spilling) (x : Variable) (is : List Instr) → is_plain x ≡ true → AllByRecursion IsPlainForm is
    → filter (λ i. list_any (same_use x) (own_uses s.target s.func s.range i)) is ≡ filter (λ i. list_any (same_use x) (own_variables s i)) is
readers-are s x [] h forms = refl
readers-are s x (i ∷ is) h forms =
    ap (λ b. cond b (i ∷ filter (λ i. list_any (same_use x) (own_uses s.target s.func s.range i)) is) (filter (λ i. list_any (same_use x) (own_uses s.target s.func s.range i)) is)) (ap (list_any (same_use x)) (sym (plain-uses s i forms.0.last forms.0.fixed)) ∙ any-plain x (own_variables s i) h)
    ∙ ap (λ js. cond (list_any (same_use x) (own_variables s i)) (i ∷ js) js) (readers-are s x is h forms.1)

-- the reading in a way at a place asks this
pub way-asks : (view : SpillView) (is : List Instr) (w : IndexedClass) (demand : RematDemand) (ids : List ℕ) (slot : ℕ) (facts : Facts) → AllByRecursion IsPlainForm is → ids ≡ readers view (way_of view.v w) is
    → demand.key ≡ way_key (place_name is) (way_of view.v w) → demand.index ≡ w.index → wish_of demand.wish ≡ if_whole w.index (Within w.class)
    → Asks (spilling_of view slot facts) (keyed_way (spilling_of view slot facts) is (way_of view.v w)) demand ids
way-asks view is w demand ids slot facts forms read key index wish = record {
  key = key;
  by = ap (map (λ (i : Instr). i.id)) (sym (readers-are (spilling_of view slot facts) (way_of view.v w) is refl forms)) ∙ sym read;
  lanes = ap (own_lanes (spilling_of view slot facts)) (sym index);
  wish = sym wish;
}

-- one more or none
more-told : {X : Type 0} (done : List X) (q : Option X) (rest : List X) → (done ++ cons_option q []) ++ rest ≡ done ++ cons_option q rest
more-told done None rest = ap (λ xs. xs ++ rest) (append-nil done)
more-told done (Some x) rest = append_assoc done (x ∷ []) rest

-- the reading by one instruction for which nothing serves asks this
pub move-asks : (view : SpillView) (i : Instr) (x : Option IndexId) (demand : RematDemand) (slot : ℕ) (facts : Facts) → demand ≡ record { key = copy_key i.id; index = x; wish = constraints.Never } → Asks (spilling_of view slot facts) (keyed_move (spilling_of view slot facts) i x) demand (i.id ∷ [])
move-asks view i x demand slot facts e = record {
  key = ap (λ (d : RematDemand). d.key) e;
  by = refl;
  lanes = ap (λ (d : RematDemand). own_lanes (spilling_of view slot facts) d.index) (sym e);
  wish = ap (λ (d : RematDemand). wish_of d.wish) (sym e);
}

-- and that by a copy
pub copy-asks : (view : SpillView) (i : Instr) (d o : RegOp) (wish : RematConstraint) (demand : RematDemand) (slot : ℕ) (facts : Facts) → demand ≡ record { key = copy_key i.id; index = o.index; wish = wish } → wish_of wish ≡ if_whole o.index (copy_wish d.loc)
    → Asks (spilling_of view slot facts) (keyed_copy (spilling_of view slot facts) i d o) demand (i.id ∷ [])
copy-asks view i d o wish demand slot facts e w = record {
  key = ap (λ (x : RematDemand). x.key) e;
  by = refl;
  lanes = ap (λ (x : RematDemand). own_lanes (spilling_of view slot facts) x.index) (sym e);
  wish = sym w ∙ ap (λ (x : RematDemand). wish_of x.wish) (sym e);
}

-- tied uses, in the order of operands

-- those that are told so far, and those that are left
pub record TiedSoFar (view : SpillView) (ds : List Definition) (i : Instr) (left : List RegOp) (old new : List RematUse) : Type 0 where
  pub done : List RegOp
  pub told : Lists view ds (λ s. keyed_uses s i done) old new
  pub both : done ++ left ≡ filter_map (tied_own view.v i.operands) (seated_operands view.target.now i)

pub tied-step : (view : SpillView) (ds : List Definition) (i : Instr) (qs next : List Role) (r : Option Role) (k : ℕ) (o : Operand) (tied : Option RegOp) (old mid new : List RematUse) → k < length i.operands → o ≡ get_or i.operands k o → r ≡ first_role qs → next ≡ after_first qs
    → tied ≡ tied_own view.v i.operands (r, o) → Lists view ds (λ s. keyed_uses s i (cons_option tied [])) mid new
    → TiedSoFar view ds i (filter_map (tied_own view.v i.operands) (explicit_bound qs (drop k i.operands))) old mid → TiedSoFar view ds i (filter_map (tied_own view.v i.operands) (explicit_bound next (drop (k + 1) i.operands))) old new
tied-step view ds i qs next r k o tied old mid new h at role left is one was =
    let rest = filter_map (tied_own view.v i.operands) (explicit_bound next (drop (k + 1) i.operands)) in
    record {
      done = was.done ++ cons_option tied [];
      told = lists-same view ds (λ s. keyed_uses s i was.done ++ keyed_uses s i (cons_option tied [])) (λ s. keyed_uses s i (was.done ++ cons_option tied [])) old new
          (λ slot facts. sym (map-append (λ (u : RegOp). keyed_move (spilling_of view slot facts) i u.index) was.done (cons_option tied [])))
          (lists-then view ds (λ s. keyed_uses s i was.done) (λ s. keyed_uses s i (cons_option tied [])) old mid new was.told one);
      both = more-told was.done tied rest
          ∙ (ap (λ q. was.done ++ cons_option q rest) is
          ∙ (ap (λ xs. was.done ++ xs) (sym (told-more (tied_own view.v i.operands) qs next r k i.operands o h at role left)) ∙ was.both));
    }

pub tied-done : (view : SpillView) (ds : List Definition) (i : Instr) (qs : List Role) (k : ℕ) (old new : List RematUse) → length i.operands ≤ k → TiedSoFar view ds i (filter_map (tied_own view.v i.operands) (explicit_bound qs (drop k i.operands))) old new → Lists view ds (λ s. keyed_tied_uses s i) old new
tied-done view ds i qs k old new h was =
    let all : was.done ≡ filter_map (tied_own view.v i.operands) (seated_operands view.target.now i) = sym (ap (λ xs. was.done ++ xs) (told-all (tied_own view.v i.operands) qs k i.operands h) ∙ append-nil was.done) ∙ was.both in
    lists-same view ds (λ s. keyed_uses s i was.done) (λ s. keyed_tied_uses s i) old new (λ slot facts. ap (keyed_uses (spilling_of view slot facts) i) all) was.told

-- they are the definition's
module _ (v : ℕ) (os : List Operand) where
  abbrev kept : List TiedPair → List RegOp
  kept ps = map (λ p. p.tied_use) (filter (λ p. is_range v p.tied_use.loc && not p.tied_use.undef) ps)

  one-kept : (o : RegOp) (n : Option ℕ) (ps : List TiedPair) → kept (cons_option (paired_with os o n) ps) ≡ cons_option (cond ((is_range v o.loc && not o.undef) && is_some (option_and_then (register_at os) n)) (Some o) None) (kept ps)
  one-kept o None ps = go (is_range v o.loc && not o.undef)
    where
      go : (a : Bool) → kept ps ≡ cons_option (cond (a && false) (Some o) None) (kept ps)
      go true = refl
      go false = refl
  one-kept o (Some n) ps = go (register_at os n) (is_range v o.loc && not o.undef) refl
    where
      go : (q : Option RegOp) (a : Bool) → (is_range v o.loc && not o.undef) ≡ a → kept (cons_option (option_map (λ d. record { number = n; definition = d; tied_use = o }) q) ps) ≡ cons_option (cond (a && is_some q) (Some o) None) (kept ps)
      go None true e = refl
      go None false e = refl
      go (Some d) a e = ap (λ b. map (λ (p : TiedPair). p.tied_use) (cond b (record { number = n; definition = d; tied_use = o } ∷ filter (λ (p : TiedPair). is_range v p.tied_use.loc && not p.tied_use.undef) ps) (filter (λ p. is_range v p.tied_use.loc && not p.tied_use.undef) ps))) e ∙ some a
        where
          some : (b : Bool) → map (λ (p : TiedPair). p.tied_use) (cond b (record { number = n; definition = d; tied_use = o } ∷ filter (λ (p : TiedPair). is_range v p.tied_use.loc && not p.tied_use.undef) ps) (filter (λ p. is_range v p.tied_use.loc && not p.tied_use.undef) ps)) ≡ cons_option (cond (b && true) (Some o) None) (kept ps)
          some true = refl
          some false = refl

  all-kept : (bs : List Bound) → kept (filter_map (tied_pair os) bs) ≡ filter_map (tied_own v os) bs
  all-kept [] = refl
  all-kept ((r, operands.Reg o) ∷ bs) = one-kept o (option_and_then tied_number r) (filter_map (tied_pair os) bs) ∙ ap (cons_option (tied_own v os (r, operands.Reg o))) (all-kept bs)
  all-kept ((r, x) ∷ bs) = all-kept bs

  own-skips : SkipsFixed (tied_own v os)
  own-skips r o h = go o.loc h
    where
      go : (l : Loc) → is_virtual l ≡ false → cond ((is_range v l && not o.undef) && is_some (option_and_then (register_at os) (option_and_then tied_number r))) (Some o) None ≡ None
      go (Virtual w) h = absurd (cc)
      go (Fixed q) h = refl

map-twice : {X Y Z : Type 0} (f : Y → Z) (g : X → Y) (xs : List X) → map (λ x. f (g x)) xs ≡ map f (map g xs)
map-twice f g [] = refl
map-twice f g (x ∷ xs) = ap (λ ys. f (g x) ∷ ys) (map-twice f g xs)

pub tied-are : (s : Spilling) (i : Instr) → IsPlainForm i → keyed_tied_uses s i ≡ keyed_tied s i
tied-are s i form =
    ap (keyed_uses s i) (sym (told-in-order (tied_own s.range i.operands) (own-skips s.range i.operands) s.target i form.last form.fixed) ∙ sym (all-kept s.range i.operands (bound s.target i)))
    ∙ sym (map-twice (λ (o : RegOp). keyed_move s i o.index) (λ (p : TiedPair). p.tied_use) (tied_readings s i))

pub all-tied-are : (s : Spilling) (is : List Instr) → AllByRecursion IsPlainForm is → flat_map (keyed_tied_uses s) is ≡ flat_map (keyed_tied s) is
all-tied-are s [] h = refl
all-tied-are s (i ∷ is) h = λ k. tied-are s i h.0 k ++ all-tied-are s is h.1 k

-- the readings by operands

-- the first ways that are listed
pub first-ways : (v : ℕ) (old new : List IndexedClass) (us : List Variable) → old ≡ [] → map (way_of v) new ≡ map (way_of v) old ++ each_once (map (way_of v) old) us → map (way_of v) new ≡ each_once [] us
first-ways v old new us empty e = e ∙ ap (λ xs. map (way_of v) xs ++ each_once (map (way_of v) xs) us) empty

ways-keyed : (s : Spilling) (is : List Instr) (v : ℕ) (ws : List IndexedClass) → flat_map (λ w. keyed_way s is (way_of v w) ∷ []) ws ≡ map (keyed_way s is) (map (way_of v) ws)
ways-keyed s is v [] = refl
ways-keyed s is v (w ∷ ws) = ap (λ ks. keyed_way s is (way_of v w) ∷ ks) (ways-keyed s is v ws)

pub lists-operands : (view : SpillView) (ds : List Definition) (is : List Instr) (ws : List IndexedClass) (old mid new : List RematUse) → AllByRecursion IsPlainForm is
    → map (way_of view.v) ws ≡ each_once [] (flat_map (own_uses view.target.now view.live.now.func view.v) is)
    → Lists view ds (λ s. flat_map (λ w. keyed_way s is (way_of view.v w) ∷ []) ws) old mid → Lists view ds (λ s. flat_map (keyed_tied_uses s) is) mid new → Lists view ds (λ s. keyed_operands s is) old new
lists-operands view ds is ws old mid new forms ways a b =
    lists-same view ds (λ s. flat_map (λ w. keyed_way s is (way_of view.v w) ∷ []) ws ++ flat_map (keyed_tied_uses s) is) (λ s. keyed_operands s is) old new
    (λ slot facts. let s = spilling_of view slot facts in
    (λ k. (ways-keyed s is view.v ws ∙ ap (map (keyed_way s is)) (ways ∙ sym (ways-are s is forms))) k ++ all-tied-are s is forms k))
    (lists-then view ds (λ s. flat_map (λ w. keyed_way s is (way_of view.v w) ∷ []) ws) (λ s. flat_map (keyed_tied_uses s) is) old mid new a b)

-- definitions that go

pub left-one : (test : ℕ → Bool) (id : ℕ) (b c : Bool) (old : List ℕ) → test id ≡ c → b ≡ c → b ≡ false → (n : ℕ) → has n old ≡ (has n old || has n (filter test (id ∷ [])))
left-one test id b c old e g h n = sym (ap (λ w. has n old || has n (cond w (id ∷ []) [])) (e ∙ (sym g ∙ h)) ∙ or-false (has n old))

pub kept-one : (test : ℕ → Bool) (id : ℕ) (b c : Bool) (old new : List ℕ) → test id ≡ c → b ≡ c → b ≡ true → new ≡ insert_key nat_cmp old id → (n : ℕ) → has n new ≡ (has n old || has n (filter test (id ∷ [])))
kept-one test id b c old new e g h is n =
    ap (has n) is
    ∙ (has-inserted old id n
    ∙ (turned (nat_eq id n) (has n old) ∙ sym (ap (λ w. has n old || has n (cond w (id ∷ []) [])) (e ∙ (sym g ∙ h)))))
  where
    turned : (a b : Bool) → cond a true b ≡ (b || cond a true false)
    turned true true = refl
    turned true false = refl
    turned false true = refl
    turned false false = refl

has-both : (n : ℕ) (xs ys : List ℕ) → has n (xs ++ ys) ≡ (has n xs || has n ys)
has-both n [] ys = refl
has-both n (x ∷ xs) ys = go (nat_eq x n) (has-both n xs ys)
  where
    go : (a : Bool) → has n (xs ++ ys) ≡ (has n xs || has n ys) → cond a true (has n (xs ++ ys)) ≡ (cond a true (has n xs) || has n ys)
    go true h = refl
    go false h = h

pub item-member : {X : Type 0} (xs : List X) (k : ℕ) (x : X) → k < length xs → x ≡ get_or xs k x → Member x xs
item-member [] k x h e = absurd (omega (arith, h))
item-member (y ∷ xs) zero x h e = subst (λ z. Member z (y ∷ xs)) (sym e) first
item-member (y ∷ xs) (suc k) x h e = later (item-member xs k x (omega (arith, h)) e)

pub deleted-step : (test : ℕ → Bool) (ds : List Definition) (k : ℕ) (d : Definition) (old new : List ℕ) → k < length ds → d ≡ get_or ds k d → ((n : ℕ) → has n old ≡ has n (filter test (map (λ d. d.id) (take k ds))))
    → ((n : ℕ) → has n new ≡ (has n old || has n (filter test (d.id ∷ [])))) → (n : ℕ) → has n new ≡ has n (filter test (map (λ d. d.id) (take (k + 1) ds)))
deleted-step test ds k d old new h at was is n =
    is n
    ∙ (ap (λ b. b || has n (filter test (d.id ∷ []))) (was n)
    ∙ (sym (has-both n (filter test (map (λ (d : Definition). d.id) (take k ds))) (filter test (d.id ∷ [])))
    ∙ ap (has n) (sym (filter-append test (map (λ (d : Definition). d.id) (take k ds)) (d.id ∷ []))
    ∙ ap (filter test) (sym (map-append (λ (d : Definition). d.id) (take k ds) (d ∷ [])) ∙ ap (map (λ (d : Definition). d.id)) (ap (λ x. take k ds ++ x ∷ []) at ∙ sym (take_more ds k d h))))))

-- copies and stores by their operands

module _ (s : Spilling) (i : Instr) where
  pub stored-none : (os : List Operand) → register_at os 0 ≡ None → keyed_operands s (i ∷ []) ≡ keyed_effect s i (Some effects.Spill) os
  stored-none [] e = refl
  stored-none (operands.Reg q ∷ os) e = absurd (cc)
  stored-none (x ∷ os) e = refl

  pub stored-first : (os : List Operand) (o : RegOp) → register_at os 0 ≡ Some o → cond (is_own s o) (keyed_move s i o.index ∷ []) [] ≡ keyed_effect s i (Some effects.Spill) os
  stored-first [] o e = absurd (cc)
  stored-first (operands.Reg q ∷ os) o e = let same : o ≡ q = cc in ap (λ (r : RegOp). cond (is_own s r) (keyed_move s i r.index ∷ []) []) same
  stored-first (x ∷ os) o e = absurd (cc)

  pub copied-none : (os : List Operand) → register_at os 0 ≡ None → keyed_operands s (i ∷ []) ≡ keyed_effect s i (Some effects.Copy) os
  copied-none [] e = refl
  copied-none (operands.Reg q ∷ os) e = absurd (cc)
  copied-none (x ∷ os) e = refl

  pub copied-one : (os : List Operand) → register_at os 1 ≡ None → keyed_operands s (i ∷ []) ≡ keyed_effect s i (Some effects.Copy) os
  copied-one [] e = refl
  copied-one (x ∷ operands.Reg q ∷ os) e = absurd (cc)
  copied-one (x ∷ []) e = one x
    where
      one : (x : Operand) → keyed_operands s (i ∷ []) ≡ keyed_effect s i (Some effects.Copy) (x ∷ [])
      one (operands.Reg d) = refl
      one x = refl
  copied-one (x ∷ y ∷ os) e = two x y e
    where
      two : (x y : Operand) → register_at (x ∷ y ∷ os) 1 ≡ None → keyed_operands s (i ∷ []) ≡ keyed_effect s i (Some effects.Copy) (x ∷ y ∷ os)
      two x (operands.Reg q) e = absurd (cc)
      two (operands.Reg d) y e = refl
      two x y e = refl

  pub copied-both : (os : List Operand) (d o : RegOp) → register_at os 0 ≡ Some d → register_at os 1 ≡ Some o → cond (is_own s o) (keyed_copy s i d o ∷ []) [] ≡ keyed_effect s i (Some effects.Copy) os
  copied-both [] d o a e = absurd (cc)
  copied-both (x ∷ []) d o a e = absurd (cc)
  copied-both (operands.Reg p ∷ operands.Reg q ∷ os) d o a e =
      let first-same : d ≡ p = cc in
      let second-same : o ≡ q = cc in
      λ k. cond (is_own s (second-same k)) (keyed_copy s i (first-same k) (second-same k) ∷ []) []
  copied-both (x ∷ y ∷ os) d o a e = two x y a e
    where
      two : (x y : Operand) → register_at (x ∷ y ∷ os) 0 ≡ Some d → register_at (x ∷ y ∷ os) 1 ≡ Some o → cond (is_own s o) (keyed_copy s i d o ∷ []) [] ≡ keyed_effect s i (Some effects.Copy) (x ∷ y ∷ os)
      two (operands.Reg p) (operands.Reg q) a e =
          let first-same : d ≡ p = cc in
          let second-same : o ≡ q = cc in
          λ k. cond (is_own s (second-same k)) (keyed_copy s i (first-same k) (second-same k) ∷ []) []
      two (operands.Reg p) y a e = absurd (cc)
      two x y a e = absurd (cc)

  pub other-effect : (e : Effect) (os : List Operand) → is_copy e ≡ false → is_spill e ≡ false → keyed_operands s (i ∷ []) ≡ keyed_effect s i (Some e) os
  other-effect effects.Copy os a c = absurd (cc)
  other-effect effects.Spill os a c = absurd (cc)
  other-effect e os a c = refl

-- tied uses of an instruction, from the first on, and where its operands are looked at as a slice

pub tied-first : (view : SpillView) (ds : List Definition) (i : Instr) (qs : List Role) (us : List RematUse) → qs ≡ roles_of view.target.now i → TiedSoFar view ds i (filter_map (tied_own view.v i.operands) (explicit_bound (explicit_roles qs) i.operands)) us us
tied-first view ds i qs us e = record {
  done = [];
  told = lists-none view ds us;
  both = ap (λ rs. filter_map (tied_own view.v i.operands) (explicit_bound (explicit_roles rs) i.operands)) e;
}

pub tied-walked : (view : SpillView) (ds : List Definition) (i : Instr) (qs next : List Role) (r : Option Role) (k : ℕ) (items : List Operand) (o : Operand) (tied : Option RegOp) (old mid new : List RematUse) → items ≡ i.operands → k < length items → o ≡ get_or items k o → r ≡ first_role qs → next ≡ after_first qs
    → tied ≡ tied_own view.v i.operands (r, o) → Lists view ds (λ s. keyed_uses s i (cons_option tied [])) mid new
    → TiedSoFar view ds i (filter_map (tied_own view.v i.operands) (explicit_bound qs (drop k i.operands))) old mid → TiedSoFar view ds i (filter_map (tied_own view.v i.operands) (explicit_bound next (drop (k + 1) i.operands))) old new
tied-walked view ds i qs next r k items o tied old mid new are h at = tied-step view ds i qs next r k o tied old mid new (subst (λ xs. k < length xs) are h) (subst (λ xs. o ≡ get_or xs k o) are at)

-- two clauses on what is answered
pub ok-both : {T E : Type 0} (r : Result T E) (P Q S : T → Type 0) → ((x : T) → P x → Q x → S x) → IfOk r P → IfOk r Q → IfOk r S
ok-both (Ok x) P Q S f p q = f x p q
ok-both (Err e) P Q S f p q = tt

-- one of the numbers so far, or the next

pub no-empty : (n : ℕ) → has n [] ≡ true → ⊥
no-empty n h = cc

pub no-true : true ≡ false → ⊥
no-true e = cc

last-has : (xs : List ℕ) (y n : ℕ) (P : Type 0) → has n (xs ++ y ∷ []) ≡ true → (has n xs ≡ true → P) → (n ≡ y → P) → P
last-has [] y n P e f g = go (nat_eq y n) refl e
  where
    go : (b : Bool) → nat_eq y n ≡ b → cond b true false ≡ true → P
    go true q e = g (sym (eqb-true y n q))
    go false q e = absurd (cc)
last-has (x ∷ xs) y n P e f g = go (nat_eq x n) e f (λ e f. last-has xs y n P e f g)
  where
    go : (b : Bool) → cond b true (has n (xs ++ y ∷ [])) ≡ true → (cond b true (has n xs) ≡ true → P) → (has n (xs ++ y ∷ []) ≡ true → (has n xs ≡ true → P) → P) → P
    go true e f more-of = f refl
    go false e f more-of = more-of e f

pub take-has : (ns : List ℕ) (k d n : ℕ) (P : Type 0) → k < length ns → has n (take (k + 1) ns) ≡ true → (has n (take k ns) ≡ true → P) → (n ≡ get_or ns k d → P) → P
take-has ns k d n P h e f g = last-has (take k ns) (get_or ns k d) n P (subst (λ xs. has n xs ≡ true) (take_more ns k d h) e) f g
