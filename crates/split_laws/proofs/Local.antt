-- Labels of local splits agree on the ways between blocks: the range is live on none, and no label changes behind a terminator.
use Rattle.std.proofs.Common.{◌≡◌, ◌⊎◌, inl, inr, ℕ, zero, suc, Bool, true, false, cond, not, ◌&&◌, ◌||◌, List, [], ◌∷◌, ◌++◌, Option, Some, None, filter, flat_map, map, length, take, refl, sym, ap, ◌∙◌, subst, append_assoc, eqb-true}
use Rattle.std.specs.Prelude.{find, nat_eq, nat_le, nat_lt, option_map, slice_get, ◌-◌}
use Rattle.std.specs.List.{list_any}
use Rattle.target_base.specs.declared.types.Reg.{Reg}
use Rattle.target_base.specs.declared.types.Target.{Target}
use Rattle.target_base.proofs.Tests.{second_of_both}
use Rattle.meaning.specs.Live.{Among as Member, here as first, there as later}
use Rattle.mir_func.specs.declared.func.Edge.{Edge as Successor}
use Rattle.mir_func.specs.declared.func.Instr.{Instr}
use Rattle.mir_func.specs.declared.func.Block.{Block}
use Rattle.mir_func.specs.Value.{Function}
use Rattle.mir_func.specs.Binding.{class_of, does, is_terminator}
use Rattle.mir_meaning.specs.Places.{domain}
use Rattle.mir_meaning.specs.Points.{Start, touches}
use Rattle.mir_meaning.specs.Rules.{V8}
use Rattle.live_lanes.specs.declared.ask.labels.Mark.{Mark}
use Rattle.instr_effects.proofs.Members.{filter-of, flat-in, flat-of, in-either, map-in, map-of, member-elim, member-none, right-in}
use Rattle.live_laws.proofs.Effects.Blocks.{block-numbered, member-slice, named-there, slice-member}
use Rattle.live_laws.proofs.Effects.Lists.{any-in}
use Rattle.live_laws.proofs.Effects.Moved.{Apart}
use Rattle.live_laws.proofs.Effects.Moving.{some-same}
use Rattle.lowering_laws.specs.Shapes.{IsLowered}
use Rattle.split_kit.specs.Split.{RangeLive, is_gap, label_behind, last_label, marks_at, same_number, start_label}
use Rattle.split_choose.specs.Offers.{In, Out, Shows, Touched, View, at_gap, at_start, blocks_between, borders, clear_along, end_place, ends_of, first_id, gap_behind, is_dividable, last_id, live_at, run_ends, run_marks, runs, runs_of, runs_up_to, terminators, touched_places, touching}
use Rattle.split_laws.specs.Laws.{AllMeet, LabelsAgree, Meets, next_gap}
use Rattle.split_laws.specs.Offers.{LocalLabelsAgree}
use Rattle.split_laws.proofs.Borders.{between, enters, own-numbers}
use Rattle.split_laws.proofs.Points.{block-ids-apart, gap-at}

abbrev ids : List Instr → List ℕ
ids is = map (λ (i : Instr). i.id) is

head-same : {X : Type 0} (x y : X) (xs ys : List X) → ◌≡◌ {A = List X} (x ∷ xs) (y ∷ ys) → x ≡ y
head-same x y xs ys e = cc

tail-same : {X : Type 0} (x y : X) (xs ys : List X) → ◌≡◌ {A = List X} (x ∷ xs) (y ∷ ys) → xs ≡ ys
tail-same x y xs ys e = cc

-- things with numbers of their own are the same where their numbers are
same-by : {X : Type 0} (number : X → ℕ) (xs : List X) → Apart (map number xs) → (x y : X) → Member x xs → Member y xs → number x ≡ number y → x ≡ y
same-by number [] a x y mx my e = absurd (member-none x mx)
same-by number (c ∷ xs) a x y mx my e =
    member-elim x c xs
    (λ q. member-elim y c xs (λ r. q ∙ sym r) (λ k. absurd (a.0 (subst (λ n. Member n (map number xs)) (sym e ∙ ap number q) (map-in number y xs k)))) my)
    (λ j. member-elim y c xs (λ r. absurd (a.0 (subst (λ n. Member n (map number xs)) (e ∙ ap number r) (map-in number x xs j)))) (λ k. same-by number xs a.1 x y j k e) my) mx

apart-ids : (front back : List Instr) → Apart (ids (front ++ back)) → (x y : Instr) → Member x front → Member y back → x.id ≡ y.id → ⊥
apart-ids [] back a x y mx my e = member-none x mx
apart-ids (c ∷ front) back a x y mx my e =
    member-elim x c front
    (λ q. a.0 (subst (λ n. Member n (ids (front ++ back))) (sym e ∙ ap (λ (i : Instr). i.id) q) (map-in (λ (i : Instr). i.id) y (front ++ back) (right-in y front back my))))
    (λ k. apart-ids front back a.1 x y k my e) mx

-- gaps

same-gap : (g k : Option ℕ) → same_number g k ≡ true → g ≡ k
same-gap None None e = refl
same-gap (Some a) (Some c) e = ap Some (eqb-true a c e)
same-gap None (Some c) e = absurd (cc)
same-gap (Some a) None e = absurd (cc)

not-same : (g k : Option ℕ) → (g ≡ k → ⊥) → same_number g k ≡ false
not-same g k h = go (same_number g k) refl
  where
    go : (q : Bool) → same_number g k ≡ q → same_number g k ≡ false
    go true e = absurd (h (same-gap g k e))
    go false e = e

gap-first : (is : List Instr) → first_id is ≡ next_gap is
gap-first [] = refl
gap-first (i ∷ is) = refl

-- the gaps behind two instructions differ

ahead : (front : List Instr) (i : Instr) (back : List Instr) → Apart (ids (front ++ i ∷ back)) → next_gap back ≡ next_gap (front ++ i ∷ back) → ⊥
ahead [] i [] a e = cc
ahead [] i (j ∷ js) a e = a.0 (subst (λ n. Member n (ids (j ∷ js))) (some-same j.id i.id e) first)
ahead (x ∷ xs) i [] a e = cc
ahead (x ∷ xs) i (j ∷ js) a e = a.0 (subst (λ n. Member n (ids (xs ++ i ∷ j ∷ js))) (some-same j.id x.id e) (map-in (λ (c : Instr). c.id) j (xs ++ i ∷ j ∷ js) (right-in j xs (i ∷ j ∷ js) (later first))))

one-gap : (front back front1 back1 : List Instr) (i i1 : Instr) → ◌≡◌ {A = List Instr} (front ++ i ∷ back) (front1 ++ i1 ∷ back1) → Apart (ids (front ++ i ∷ back)) → next_gap back1 ≡ next_gap back → i ≡ i1
one-gap [] back [] back1 i i1 e a h = head-same i i1 back back1 e
one-gap [] back (y ∷ front1) back1 i i1 e a h = absurd (let q = tail-same i y back (front1 ++ i1 ∷ back1) e in ahead front1 i1 back1 (subst (λ is. Apart (ids is)) q a.1) (h ∙ ap next_gap q))
one-gap (x ∷ front) back [] back1 i i1 e a h = absurd (let q = tail-same x i1 (front ++ i ∷ back) back1 e in ahead front i back a.1 (sym h ∙ ap next_gap (sym q)))
one-gap (x ∷ front) back (y ∷ front1) back1 i i1 e a h = one-gap front back front1 back1 i i1 (tail-same x y (front ++ i ∷ back) (front1 ++ i1 ∷ back1) e) a.1 h

-- the first that passes stands no later than one that passes
first-passing : (p : Instr → Bool) (front : List Instr) (i : Instr) (back : List Instr) (c : Instr) (rest : List Instr) → p i ≡ true → filter p (front ++ i ∷ back) ≡ c ∷ rest → Member c (front ++ i ∷ [])
first-passing p [] i back c rest g e =
    let q : ◌≡◌ {A = List Instr} (i ∷ filter p back) (c ∷ rest) = sym (ap (λ b. cond b (i ∷ filter p back) (filter p back)) g) ∙ e in
    subst (λ x. Member c (x ∷ [])) (sym (head-same i c (filter p back) rest q)) first
first-passing p (x ∷ front) i back c rest g e = go (p x) e (first-passing p front i back c rest g)
  where
    go : (b : Bool) → cond b (x ∷ filter p (front ++ i ∷ back)) (filter p (front ++ i ∷ back)) ≡ c ∷ rest → (filter p (front ++ i ∷ back) ≡ c ∷ rest → Member c (front ++ i ∷ [])) → Member c (x ∷ (front ++ i ∷ []))
    go true q ih = subst (λ y. Member c (y ∷ (front ++ i ∷ []))) (sym (head-same x c (filter p (front ++ i ∷ back)) rest q)) first
    go false q ih = later (ih q)

-- behind a terminator stand terminators alone

past-one : (a : Bool) → (a || false) ≡ true → a ≡ true
past-one true e = refl
past-one false e = e

past-more : (a b c : Bool) → (a || not (b || c)) ≡ true → (a || not c) ≡ true
past-more true b c e = refl
past-more false true c e = absurd (cc)
past-more false false c e = e

module _ (p : Instr → Bool) where
  abbrev pub InOrder : List Instr → Type 0
  InOrder is = (j : ℕ) (y : Instr) → slice_get is j ≡ Some y → (p y || not (list_any p (take j is))) ≡ true

  pub behind-passes : (front : List Instr) (i : Instr) (back : List Instr) → InOrder (front ++ i ∷ back) → p i ≡ true → (y : Instr) → Member y back → p y ≡ true
  behind-passes [] i back h g y m = let z = member-slice y back m in past-one (p y) (subst (λ b. (p y || not (b || list_any p (take z.0 back))) ≡ true) g (h (suc z.0) y z.1))
  behind-passes (x ∷ front) i back h g y m = behind-passes front i back (λ j c e. past-more (p c) (p x) (list_any p (take j (front ++ i ∷ back))) (h (suc j) c e)) g y m

-- members of runs

taken-in : {X : Type 0} (n : ℕ) (xs : List X) (x : X) → Member x (take n xs) → Member x xs
taken-in zero xs x m = absurd (member-none x m)
taken-in (suc n) [] x m = absurd (member-none x m)
taken-in (suc n) (y ∷ xs) x m = member-elim x y (take n xs) (λ e. subst (λ z. Member x (z ∷ xs)) e first) (λ k. later (taken-in n xs x k)) m

pub find-passes : {X : Type 0} (p : X → Bool) (xs : List X) (x : X) → find p xs ≡ Some x → Member x xs
find-passes p [] x e = absurd (cc)
find-passes {X} p (y ∷ xs) x e = go (p y) e (find-passes p xs x)
  where
    go : (b : Bool) → cond b (Some y) (find p xs) ≡ Some x → (find p xs ≡ Some x → Member x xs) → Member x (y ∷ xs)
    go true q ih = subst (λ z. Member x (z ∷ xs)) (sym (some-same y x q)) first
    go false q ih = later (ih q)

both-none : (x y : Bool) → (x ≡ true → y ≡ false) → (x && y) ≡ false
both-none true y h = h refl
both-none false y h = refl

pub not-true : (b : Bool) → not b ≡ true → b ≡ false
not-true true e = absurd (cc)
not-true false e = refl

module _ (t : Target) (f : Function) (low : IsLowered t f) (v : ℕ) (registers : List (Option Reg)) (view : View) (shows : Shows t f registers v view) where
  abbrev Places : List Touched
  Places = touched_places t f v view

  -- runs are of touched places

  run-in : (n : ℕ) (ps us : List Touched) → Member us (runs_of t f v view n ps) → (x : Touched) → Member x us → Member x ps
  run-in n [] us m x k = absurd (member-none us m)
  run-in n (p ∷ ps) us m x k = go (nat_le n (length (p ∷ ps))) m (λ j. run-in n ps us j x k)
    where
      go : (b : Bool) → Member us (cond b (take n (p ∷ ps) ∷ runs_of t f v view n ps) []) → (Member us (runs_of t f v view n ps) → Member x ps) → Member x (p ∷ ps)
      go false j ih = absurd (member-none us j)
      go true j ih = member-elim us (take n (p ∷ ps)) (runs_of t f v view n ps) (λ e. taken-in n (p ∷ ps) x (subst (Member x) e k)) (λ h. later (ih h)) j

  up-to-in : (n : ℕ) (ps us : List Touched) → Member us (runs_up_to t f v view n ps) → (x : Touched) → Member x us → Member x ps
  up-to-in zero ps us m x k = absurd (member-none us m)
  up-to-in (suc n) ps us m x k = go (nat_lt n 1) m (λ h. up-to-in n ps us h x k)
    where
      go : (b : Bool) → Member us (cond b [] (runs_of t f v view (suc n) ps ++ runs_up_to t f v view n ps)) → (Member us (runs_up_to t f v view n ps) → Member x ps) → Member x ps
      go true j ih = absurd (member-none us j)
      go false j ih = by (in-either us (runs_of t f v view (suc n) ps) (runs_up_to t f v view n ps) j)
        where
          by : Member us (runs_of t f v view (suc n) ps) ⊎ Member us (runs_up_to t f v view n ps) → Member x ps
          by (inl h) = run-in (suc n) ps us h x k
          by (inr h) = ih h

  end-in : (p : Touched) (ps : List Touched) → Member (ends_of t f v view p ps).1 (p ∷ ps)
  end-in p [] = first
  end-in p (q ∷ ps) = later (end-in q ps)

  start-is : (p : Touched) (ps : List Touched) → (ends_of t f v view p ps).0 ≡ p
  start-is p [] = refl
  start-is p (q ∷ ps) = refl

  ends-in : (us : List Touched) (r : Touched × Touched) → Member r (run_ends t f v view us) → Member r.0 us × Member r.1 us
  ends-in [] r m = absurd (member-none r m)
  ends-in (p ∷ ps) r m =
      member-elim r (ends_of t f v view p ps) []
      (λ e. (subst (λ x. Member x (p ∷ ps)) (sym (ap (λ (z : Touched × Touched). z.0) e ∙ start-is p ps)) first, subst (λ x. Member x (p ∷ ps)) (sym (ap (λ (z : Touched × Touched). z.1) e)) (end-in p ps)))
      (λ k. absurd (member-none r k)) m

  run-touched : (r : (Touched × Touched) × Reg) → Member r (runs t f v view) → Member r.0.0 Places × Member r.0.1 Places
  run-touched r m =
      let spans = flat_map (run_ends t f v view) (runs_up_to t f v view (length Places - 1) Places) in
      let z = flat-of (λ (s : Touched × Touched). map (λ (p : Reg). (s, p)) (domain t (class_of f v))) r spans m in
      let y = map-of (λ (p : Reg). (z.0, p)) r (domain t (class_of f v)) z.2 in
      let same : r.0 ≡ z.0 = ap (λ (q : (Touched × Touched) × Reg). q.0) y.2 in
      let w = flat-of (run_ends t f v view) z.0 (runs_up_to t f v view (length Places - 1) Places) z.1 in
      let h = ends-in w.0 z.0 w.2 in
      (subst (λ (q : Touched × Touched). Member q.0 Places) (sym same) (up-to-in (length Places - 1) Places w.0 w.1 z.0.0 h.0), subst (λ (q : Touched × Touched). Member q.1 Places) (sym same) (up-to-in (length Places - 1) Places w.0 w.1 z.0.1 h.1))

  -- a touched place is an instruction that is no terminator, or the terminators of a block

  record IsPlain (pl : Touched) : Type 0 where
    pub block : Block
    pub member : Member block f.blocks
    pub instr : Instr
    pub there : Member instr block.instrs
    pub plain : does is_terminator t instr ≡ false
    pub number : pl.block ≡ block.number
    pub first_is : pl.first ≡ instr.id
    pub last_is : pl.last ≡ instr.id

  record IsEnd (pl : Touched) : Type 0 where
    pub block : Block
    pub member : Member block f.blocks
    pub instr : Instr
    pub rest : List Instr
    pub ends : filter (does is_terminator t) block.instrs ≡ instr ∷ rest
    pub number : pl.block ≡ block.number
    pub first_is : pl.first ≡ instr.id
    pub at_end : pl.is_end ≡ true

  abbrev plain-place : Block → Instr → Touched
  plain-place b i = record { block = b.number; first = i.id; last = i.id; is_end = false }

  end-of-block : (pl : Touched) (c : Block) → Member c f.blocks → (is : List Instr) → filter (does is_terminator t) c.instrs ≡ is → Member pl (end_place t f v view c is) → IsEnd pl
  end-of-block pl c mc [] e k = absurd (member-none pl k)
  end-of-block pl c mc (i ∷ is) e k = by (list_any (touches v) (i ∷ is)) k
    where
      by : (b : Bool) → Member pl (cond b (record { block = c.number; first = i.id; last = last_id i.id is; is_end = true } ∷ []) []) → IsEnd pl
      by false j = absurd (member-none pl j)
      by true j =
          member-elim pl (record { block = c.number; first = i.id; last = last_id i.id is; is_end = true }) []
          (λ q. record { block = c; member = mc; instr = i; rest = is; ends = e; number = ap (λ (x : Touched). x.block) q; first_is = ap (λ (x : Touched). x.first) q; at_end = ap (λ (x : Touched). x.is_end) q })
          (λ h. absurd (member-none pl h)) j

  place-of : (pl : Touched) → Member pl Places → IsPlain pl ⊎ IsEnd pl
  place-of pl m =
      let z = flat-of (λ (b : Block). map (plain-place b) (touching t f v view b) ++ end_place t f v view b (terminators t f v view b)) pl f.blocks m in
      go z.0 z.1 (in-either pl (map (plain-place z.0) (touching t f v view z.0)) (end_place t f v view z.0 (terminators t f v view z.0)) z.2)
    where
      go : (c : Block) → Member c f.blocks → Member pl (map (plain-place c) (touching t f v view c)) ⊎ Member pl (end_place t f v view c (terminators t f v view c)) → IsPlain pl ⊎ IsEnd pl
      go c mc (inl k) =
          let y = map-of (plain-place c) pl (touching t f v view c) k in
          let w = filter-of (λ (i : Instr). touches v i && not (does is_terminator t i)) y.0 c.instrs y.1 in
          inl (record { block = c; member = mc; instr = y.0; there = w.0; plain = not-true (does is_terminator t y.0) (second_of_both (touches v y.0) (not (does is_terminator t y.0)) w.1); number = ap (λ (x : Touched). x.block) y.2; first_is = ap (λ (x : Touched). x.first) y.2; last_is = ap (λ (x : Touched). x.last) y.2 })
      go c mc (inr k) = inr (end-of-block pl c mc (terminators t f v view c) refl k)

  -- no gap behind a terminator is where such a place begins, or is right behind one

  module _ (b : Block) (mb : Member b f.blocks) (front : List Instr) (i : Instr) (back : List Instr) (instrs : front ++ i ∷ back ≡ b.instrs) (ends : does is_terminator t i ≡ true) where
    same-block : (c : Block) → Member c f.blocks → c.number ≡ b.number → c ≡ b
    same-block c mc e = same-by (λ (d : Block). d.number) f.blocks (own-numbers t f low v) c b mc mb e

    apart : Apart (ids (front ++ i ∷ back))
    apart = subst (λ is. Apart (ids is)) (sym instrs) (block-ids-apart f low.function b mb)

    in-order : InOrder (does is_terminator t) (front ++ i ∷ back)
    unfolding V8
    in-order j y e = subst (λ is. (does is_terminator t y || not (list_any (does is_terminator t) (take j is))) ≡ true) (sym instrs) (low.terminators b j y mb (subst (λ is. slice_get is j ≡ Some y) instrs e))

    behind-ends : (y : Instr) → Member y back → does is_terminator t y ≡ true
    behind-ends = behind-passes (does is_terminator t) front i back in-order ends

    first-misses : (pl : Touched) → Member pl Places → pl.block ≡ b.number → same_number (Some pl.first) (next_gap back) ≡ false
    first-misses pl m number = not-same (Some pl.first) (next_gap back) (λ e. go back refl e)
      where
        by : (j : Instr) → Member j back → pl.first ≡ j.id → IsPlain pl ⊎ IsEnd pl → ⊥
        by j mj e (inl z) =
            let mi = subst (λ (d : Block). Member z.instr d.instrs) (same-block z.block z.member (sym z.number ∙ number)) z.there in
            let mj' = subst (Member j) instrs (right-in j front (i ∷ back) (later mj)) in
            let same = same-by (λ (c : Instr). c.id) b.instrs (block-ids-apart f low.function b mb) z.instr j mi mj' (sym z.first_is ∙ e) in
            let x : false ≡ true = sym z.plain ∙ (ap (does is_terminator t) same ∙ behind-ends j mj) in
            cc
        by j mj e (inr z) =
            let own = same-block z.block z.member (sym z.number ∙ number) in
            let at = first-passing (does is_terminator t) front i back z.instr z.rest ends (ap (filter (does is_terminator t)) (instrs ∙ ap (λ (d : Block). d.instrs) (sym own)) ∙ z.ends) in
            apart-ids (front ++ i ∷ []) back (subst (λ is. Apart (ids is)) (sym (append_assoc front (i ∷ []) back)) apart) z.instr j at mj (sym z.first_is ∙ e)

        go : (js : List Instr) → back ≡ js → Some pl.first ≡ next_gap back → ⊥
        go [] q e = let x : Some pl.first ≡ None = e ∙ ap next_gap q in cc
        go (j ∷ js) q e = by j (subst (Member j) (sym q) first) (some-same pl.first j.id (e ∙ ap next_gap q)) (place-of pl m)

    last-misses : (pl : Touched) → Member pl Places → pl.is_end ≡ false → pl.block ≡ b.number → same_number (gap_behind t f v view pl.last f.blocks) (next_gap back) ≡ false
    last-misses pl m plain number = not-same (gap_behind t f v view pl.last f.blocks) (next_gap back) (by (place-of pl m))
      where
        by : IsPlain pl ⊎ IsEnd pl → gap_behind t f v view pl.last f.blocks ≡ next_gap back → ⊥
        by (inr z) e = let x : true ≡ false = sym z.at_end ∙ plain in cc
        by (inl z) e =
            let own = same-block z.block z.member (sym z.number ∙ number) in
            let mi = subst (λ (d : Block). Member z.instr d.instrs) own z.there in
            let w = between z.instr b.instrs mi in
            let u = between b f.blocks mb in
            let gap : gap_behind t f v view pl.last f.blocks ≡ next_gap w.1 = ap (λ n. gap_behind t f v view n f.blocks) z.last_is ∙ (gap-at t f low.function u.0 b u.1 u.2 w.0 z.instr w.1 w.2 v view ∙ gap-first w.1) in
            let same = one-gap front back w.0 w.1 i z.instr (instrs ∙ sym w.2) apart (sym gap ∙ e) in
            let x : true ≡ false = sym ends ∙ (ap (does is_terminator t) same ∙ z.plain) in
            cc

  -- so labels stay behind terminators

  module _ (r : Touched × Touched) (starts : Member r.0 Places) (stops : Member r.1 Places) where
    abbrev ms : List Mark
    ms = run_marks t f v view r

    none-at : (n : ℕ) (g : Option ℕ) (xs : List Mark) → ((m : Mark) → Member m xs → (nat_eq m.block n && is_gap g m.spot) ≡ false) → marks_at xs n (is_gap g) ≡ []
    none-at n g [] h = refl
    none-at n g (m ∷ xs) h = ap (λ q. cond q (m ∷ marks_at xs n (is_gap g)) (marks_at xs n (is_gap g))) (h m first) ∙ none-at n g xs (λ k j. h k (later j))

    module _ (b : Block) (mb : Member b f.blocks) where
      stays : (front : List Instr) (i : Instr) (back : List Instr) → front ++ i ∷ back ≡ b.instrs → does is_terminator t i ≡ true → (now : ℕ) → label_behind ms b.number (next_gap back) now ≡ now
      stays front i back instrs ends now = ap (last_label now) (none-at b.number (next_gap back) ms misses)
        where
          at-begin : (m : Mark) → Member m (map (λ (d : Block). at_start d.number 1) (blocks_between t f v view r.0.block r.1.block)) → (nat_eq m.block b.number && is_gap (next_gap back) m.spot) ≡ false
          at-begin m k =
              let z = map-of (λ (d : Block). at_start d.number 1) m (blocks_between t f v view r.0.block r.1.block) k in
              subst (λ (x : Mark). (nat_eq x.block b.number && is_gap (next_gap back) x.spot) ≡ false) (sym z.2) (both-none (nat_eq z.0.number b.number) false (λ q. refl))

          at-stop : (q : Bool) → r.1.is_end ≡ q → (m : Mark) → Member m (cond q [] (at_gap r.1.block (gap_behind t f v view r.1.last f.blocks) 0 ∷ [])) → (nat_eq m.block b.number && is_gap (next_gap back) m.spot) ≡ false
          at-stop true e m k = absurd (member-none m k)
          at-stop false e m k =
              member-elim m (at_gap r.1.block (gap_behind t f v view r.1.last f.blocks) 0) []
              (λ q. subst (λ (x : Mark). (nat_eq x.block b.number && is_gap (next_gap back) x.spot) ≡ false) (sym q)
              (both-none (nat_eq r.1.block b.number) (same_number (gap_behind t f v view r.1.last f.blocks) (next_gap back)) (λ h. last-misses b mb front i back instrs ends r.1 stops e (eqb-true r.1.block b.number h))))
              (λ h. absurd (member-none m h)) k

          misses : (m : Mark) → Member m ms → (nat_eq m.block b.number && is_gap (next_gap back) m.spot) ≡ false
          misses m k =
              member-elim m (at_gap r.0.block (Some r.0.first) 1) (map (λ (d : Block). at_start d.number 1) (blocks_between t f v view r.0.block r.1.block) ++ cond r.1.is_end [] (at_gap r.1.block (gap_behind t f v view r.1.last f.blocks) 0 ∷ []))
              (λ q. subst (λ (x : Mark). (nat_eq x.block b.number && is_gap (next_gap back) x.spot) ≡ false) (sym q)
              (both-none (nat_eq r.0.block b.number) (same_number (Some r.0.first) (next_gap back)) (λ h. first-misses b mb front i back instrs ends r.0 starts (eqb-true r.0.block b.number h))))
              (λ j. by (in-either m (map (λ (d : Block). at_start d.number 1) (blocks_between t f v view r.0.block r.1.block)) (cond r.1.is_end [] (at_gap r.1.block (gap_behind t f v view r.1.last f.blocks) 0 ∷ [])) j)) k
            where
              by : Member m (map (λ (d : Block). at_start d.number 1) (blocks_between t f v view r.0.block r.1.block)) ⊎ Member m (cond r.1.is_end [] (at_gap r.1.block (gap_behind t f v view r.1.last f.blocks) 0 ∷ [])) → (nat_eq m.block b.number && is_gap (next_gap back) m.spot) ≡ false
              by (inl h) = at-begin m h
              by (inr h) = at-stop r.1.is_end refl m h

      -- the range is live on no way
      module _ (dead : list_any (live_at t f v view) (borders t f v view) ≡ false) where
        silent : (label : ℕ) → Meets t f v ms b.successors label
        silent label e me h =
            let place = member-slice b f.blocks mb in
            let z = block-numbered e.block f.blocks (named-there f (λ k c g. low.rules.blocks k c g) place.0 b e.block place.1 (map-in (λ (s : Successor). s.block) e b.successors me)) in
            let md = slice-member f.blocks z.0 z.1 z.2 in
            let live = enters t f low v registers view shows z.1 md (subst (λ n. RangeLive t f v (Start n)) z.3 h) in
            let some = any-in (live_at t f v view) (In z.1.number) (borders t f v view) (flat-in (λ (d : Block). In d.number ∷ Out d.number ∷ []) (In z.1.number) z.1 f.blocks md first) live in
            absurd (let x : true ≡ false = sym some ∙ dead in cc)

        all-meet : (front is : List Instr) → front ++ is ≡ b.instrs → (now : ℕ) → AllMeet t f v ms b now is
        all-meet front [] e now = silent (label_behind ms b.number None now)
        all-meet front (i ∷ is) e now =
            let to = label_behind ms b.number (Some i.id) now in
            ((λ g. (silent to, stays front i is e g to)), all-meet (front ++ i ∷ []) is (append_assoc front (i ∷ []) is ∙ e) to)

    local-agrees : list_any (live_at t f v view) (borders t f v view) ≡ false → LabelsAgree t f v ms
    local-agrees dead b mb = all-meet b mb dead [] b.instrs refl (start_label ms b.number)

pub local_labels_agree : LocalLabelsAgree
local_labels_agree t f registers v p labels low offer = go (is_dividable t f v offer.0) (list_any (live_at t f v offer.0) (borders t f v offer.0)) refl (find (clear_along t f v offer.0) (runs t f v offer.0)) refl offer.2
  where
    go : (y w : Bool) → list_any (live_at t f v offer.0) (borders t f v offer.0) ≡ w → (o : Option ((Touched × Touched) × Reg)) → find (clear_along t f v offer.0) (runs t f v offer.0) ≡ o → ◌≡◌ {A = Option (Reg × List Mark)} (Some (p, labels)) (cond (y && not w) (option_map (λ (r : (Touched × Touched) × Reg). (r.1, run_marks t f v offer.0 r.0)) o) None) → LabelsAgree t f v labels
    go false w d o s e = absurd (cc)
    go true true d o s e = absurd (cc)
    go true false d None s e = absurd (cc)
    go true false d (Some r) s e =
        let x : Reg × List Mark = (p, labels) in
        let y : Reg × List Mark = (r.1, run_marks t f v offer.0 r.0) in
        let h = run-touched t f low v registers offer.0 offer.1 r (find-passes (clear_along t f v offer.0) (runs t f v offer.0) r s) in
        subst (LabelsAgree t f v) (sym (ap (λ (z : Reg × List Mark). z.1) (some-same x y e))) (local-agrees t f low v registers offer.0 offer.1 r.0 h.0 h.1 d)
