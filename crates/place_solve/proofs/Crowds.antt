-- The own places of instructions, and those of the copies that lowering makes, which have few variables.
use Rattle.std.proofs.Common.{◌≡◌, ℕ, ◌+◌, ◌-◌, ◌<◌, ◌≤◌, Bool, true, false, cond, List, [], ◌∷◌, ◌++◌, map, length, get_or, take, drop, Option, Some, None, refl, ap, sym, ◌∙◌, arith, subst, inl, inr, below_more}
use Rattle.std.specs.Prelude.{slice_get, nat_lt}
use Rattle.std.proofs.lemmas.Bool.Decides.{nat_tests}
use Rattle.std.specs.List.{list_any, flat_map}
use Rattle.std.proofs.lemmas.List.{drop_more, length-map}
use Rattle.std.proofs.lemmas.List.Folds.{list_any_at}
use Rattle.std.proofs.lemmas.Option.{slice_get_cases, slice_get_read, slice_get_past, slice_get_within}
use Rattle.meaning.specs.Live.{Among, here}
use Rattle.target_base.specs.declared.types.Target.{Target}
use Rattle.target_base.specs.Rules.{is_copy}
use Rattle.mir_func.specs.declared.func.RegOp.{RegOp}
use Rattle.mir_func.specs.declared.func.Operand.{Operand}
use Rattle.mir_func.specs.declared.func.Instr.{Instr}
use Rattle.mir_func.specs.declared.func.Block.{Block}
use Rattle.mir_func.specs.declared.func.Place.{Place}
use Rattle.mir_func.specs.Value.{Function}
use Rattle.mir_func.specs.Binding.{does, is_terminator, is_lowered_away}
use Rattle.mir_meaning.specs.Points.{Entry}
use Rattle.mir_meaning.specs.Places.{Needs, Variable as Need, each_once, copy_variables, instr_variables, place_of, copy_place, instr_place, own_places, copied_at, lowering_places, places_at, StandsAt, FirstPlace, TooMany}
use Rattle.instr_effects.proofs.Members.{member-none, member-elim, either-elim, left-in}
use Rattle.place_solve.specs.declared.variables.Variable.{Variable}
use Rattle.place_solve.specs.Choice.{need_of}
use Rattle.place_solve.specs.Once.{virtual_sides, side_variables}
use Rattle.place_solve.specs.Own.{own_of, own_found, own_instrs, place_variables, is_crowded, IsFirst, HasFew}
use Rattle.place_solve.proofs.Copied.{lowered}
use Rattle.place_solve.proofs.Operands.{copies_are}

-- the last of a list is among them
pub last_is_there : (t : Target) (is : List Instr) (i : Instr) → 0 < length is → i ≡ get_or is (length is - 1) i → does is_terminator t i ≡ true → list_any (does is_terminator t) is ≡ true
last_is_there t is i h at holds = list_any_at (does is_terminator t) is (length is - 1) i (omega arith) (sym (ap (does is_terminator t) at) ∙ holds)

-- the instructions of the own place

own_there : (t : Target) (is : List Instr) (j : ℕ) (i : Instr) → j < length is → i ≡ get_or is j i → own_of t is j i ≡ own_instrs t is j
own_there t is j i h at = sym (ap (own_found t is j) (slice_get_read is (length is) j i refl h at))

pub own_past : (t : Target) (is : List Instr) (j : ℕ) → length is ≤ j → [] ≡ own_instrs t is j
own_past t is j h = sym (ap (own_found t is j) (slice_get_past is j h))

pub own_behind : (t : Target) (is before : List Instr) (j : ℕ) (i : Instr) (a b : Bool) → j < length is → i ≡ get_or is j i → b ≡ does is_terminator t i → b ≡ true → before ≡ take j is → a ≡ list_any (does is_terminator t) before → a ≡ true → [] ≡ own_instrs t is j
own_behind t is before j i a b h at is_b holds cut is_a found =
    let m : does is_terminator t i ≡ true = sym is_b ∙ holds in
    let n : list_any (does is_terminator t) (take j is) ≡ true = ap (list_any (does is_terminator t)) (sym cut) ∙ (sym is_a ∙ found) in
    let e : own_of t is j i ≡ [] = rw (m, n) refl in
    sym e ∙ own_there t is j i h at

pub own_first : (t : Target) (is before rest : List Instr) (j : ℕ) (i : Instr) (a b : Bool) → j < length is → i ≡ get_or is j i → b ≡ does is_terminator t i → b ≡ true → before ≡ take j is → a ≡ list_any (does is_terminator t) before → a ≡ false → rest ≡ drop j is → rest ≡ own_instrs t is j
own_first t is before rest j i a b h at is_b holds cut is_a found left =
    let m : does is_terminator t i ≡ true = sym is_b ∙ holds in
    let n : list_any (does is_terminator t) (take j is) ≡ false = ap (list_any (does is_terminator t)) (sym cut) ∙ (sym is_a ∙ found) in
    let e : own_of t is j i ≡ drop j is = rw (m, n) refl in
    left ∙ (sym e ∙ own_there t is j i h at)

pub own_lowered : (t : Target) (is : List Instr) (j : ℕ) (i : Instr) (b c : Bool) → j < length is → i ≡ get_or is j i → b ≡ does is_terminator t i → b ≡ false → c ≡ does is_lowered_away t i → c ≡ true → [] ≡ own_instrs t is j
own_lowered t is j i b c h at is_b fails is_c holds =
    let m : does is_terminator t i ≡ false = sym is_b ∙ fails in
    let n : does is_lowered_away t i ≡ true = sym is_c ∙ holds in
    let e : own_of t is j i ≡ [] = rw (m, n) refl in
    sym e ∙ own_there t is j i h at

one_taken : (is : List Instr) (j : ℕ) (i : Instr) → j < length is → i ≡ get_or is j i → take 1 (drop j is) ≡ i ∷ []
one_taken is j i h at = let d : drop j is ≡ i ∷ drop (j + 1) is = rw (← at) at (drop_more is j i h) in ap (take 1) d

pub own_single : (t : Target) (is one : List Instr) (j : ℕ) (i : Instr) (b c : Bool) → j < length is → i ≡ get_or is j i → b ≡ does is_terminator t i → b ≡ false → c ≡ does is_lowered_away t i → c ≡ false → one ≡ take 1 (drop j is) → one ≡ own_instrs t is j
own_single t is one j i b c h at is_b fails is_c none cut =
    let m : does is_terminator t i ≡ false = sym is_b ∙ fails in
    let n : does is_lowered_away t i ≡ false = sym is_c ∙ none in
    let e : own_of t is j i ≡ i ∷ [] = rw (m, n) refl in
    cut ∙ (one_taken is j i h at ∙ (sym e ∙ own_there t is j i h at))

pub ruleset own_is = (own_past, own_behind, own_first, own_lowered, own_single)

-- own places by their instructions

copy_once : (t : Target) (f : Function) (s : Option RegOp) → side_variables t f s ≡ each_once [] (side_variables t f s ++ [])
copy_once t f None = refl
copy_once t f (Some d) = refl

copies_once : (t : Target) (f : Function) (os : List Operand) → copy_variables t f os ≡ each_once [] (copy_variables t f os ++ [])
copies_once t f os = rw (copies_are t f os) (copy_once t f (virtual_sides os))

instr_once : (t : Target) (f : Function) (i : Instr) → does is_copy t i ≡ true → instr_variables t f i ≡ each_once [] (instr_variables t f i ++ [])
instr_once t f i e = rw e (copies_once t f i.operands)

single_case : (b : Bool) (t : Target) (f : Function) (i : Instr) → does is_copy t i ≡ b → (cond b (copy_place (instr_variables t f i) (Entry i.id)) (place_of t f (i ∷ []))).variables ≡ each_once [] (instr_variables t f i ++ [])
single_case true t f i e = instr_once t f i e
single_case false t f i e = refl

pub single_is : (t : Target) (f : Function) (i : Instr) → (instr_place t f i).variables ≡ place_variables t f (i ∷ [])
single_is t f i = single_case (does is_copy t i) t f i refl

among_one : (p q : Needs) → Among p (q ∷ []) → p ≡ q
among_one p q m = member-elim p q [] (λ e. e) (λ k. absurd (member-none p k)) m

own_down : (a b c : Bool) (t : Target) (f : Function) (is : List Instr) (i : Instr) (p : Needs) → Among p (cond a (cond b [] (place_of t f is ∷ [])) (cond c [] (instr_place t f i ∷ []))) → p.variables ≡ place_variables t f (cond a (cond b [] is) (cond c [] (i ∷ [])))
own_down true true c t f is i p h = absurd (member-none p h)
own_down true false c t f is i p h = ap (λ (q : Needs). q.variables) (among_one p (place_of t f is) h)
own_down false b true t f is i p h = absurd (member-none p h)
own_down false b false t f is i p h = ap (λ (q : Needs). q.variables) (among_one p (instr_place t f i) h) ∙ single_is t f i

-- a place of that list with these variables
record Has (vs : List Need) (ps : List Needs) : Type 0 where
  place : Needs
  among : Among place ps
  variables : place.variables ≡ vs

own_up : (a b c : Bool) (t : Target) (f : Function) (is : List Instr) (i : Instr) → 6 < length (place_variables t f (cond a (cond b [] is) (cond c [] (i ∷ [])))) → Has (place_variables t f (cond a (cond b [] is) (cond c [] (i ∷ [])))) (cond a (cond b [] (place_of t f is ∷ [])) (cond c [] (instr_place t f i ∷ [])))
own_up true true c t f is i h = absurd (omega arith)
own_up true false c t f is i h = record { place = place_of t f is; among = here; variables = refl }
own_up false b true t f is i h = absurd (omega arith)
own_up false b false t f is i h = record { place = instr_place t f i; among = here; variables = single_is t f i }

-- the places of copies that lowering makes have one variable each
few_lowered : (t : Target) (f : Function) (i : Instr) (p : Needs) → Among p (lowering_places t f i) → TooMany p → ⊥
few_lowered t f i p m many =
    let z = lowered t f (λ q. Unit {0}) i tt tt p (λ o n h. tt) m in
    let one : TooMany (copied_at t f z.0 z.1) = subst TooMany z.3 many in
    omega arith

-- places of a block

few_length : (n : ℕ) → nat_lt 6 n ≡ false → 6 < n → ⊥
few_length n e h = grind (arith, nat_tests)

many_length : (n : ℕ) → nat_lt 6 n ≡ true → 6 < n
many_length n e = grind (arith, nat_tests)

own_few : (t : Target) (f : Function) (b : Block) (j : ℕ) (i : Instr) (p : Needs) → slice_get b.instrs j ≡ Some i → is_crowded t f b.instrs j ≡ false → Among p (own_places t f b j i) → TooMany p → ⊥
own_few t f b j i p at few h many =
    let own : own_instrs t b.instrs j ≡ own_of t b.instrs j i = ap (own_found t b.instrs j) at in
    let vs : p.variables ≡ place_variables t f (own_of t b.instrs j i) = own_down (does is_terminator t i) (list_any (does is_terminator t) (take j b.instrs)) (does is_lowered_away t i) t f (drop j b.instrs) i p h in
    let same : p.variables ≡ place_variables t f (own_instrs t b.instrs j) = vs ∙ sym (ap (place_variables t f) own) in
    let lengths : length p.variables ≡ length (place_variables t f (own_instrs t b.instrs j)) = ap (λ (ns : List Need). length ns) same in
    few_length (length (place_variables t f (own_instrs t b.instrs j))) few (omega arith)

own_many : (t : Target) (f : Function) (b : Block) (j : ℕ) (i : Instr) → slice_get b.instrs j ≡ Some i → is_crowded t f b.instrs j ≡ true → 6 < length (place_variables t f (own_of t b.instrs j i))
own_many t f b j i at crowded =
    let own : own_instrs t b.instrs j ≡ own_of t b.instrs j i = ap (own_found t b.instrs j) at in
    let e : nat_lt 6 (length (place_variables t f (own_of t b.instrs j i))) ≡ true = ap (λ (is : List Instr). nat_lt 6 (length (place_variables t f is))) (sym own) ∙ crowded in
    many_length (length (place_variables t f (own_of t b.instrs j i))) e

same_block : (f : Function) (k : ℕ) (b c : Block) → slice_get f.blocks k ≡ Some b → slice_get f.blocks k ≡ Some c → c ≡ b
same_block f k b c e g = let h : Some c ≡ Some b = sym g ∙ e in cc

stands_few : (t : Target) (f : Function) (k : ℕ) (b : Block) (j : ℕ) (p : Needs) → slice_get f.blocks k ≡ Some b → StandsAt t f k j p → is_crowded t f b.instrs j ≡ false → TooMany p → ⊥
unfolding places_at
stands_few t f k b j p at s few many =
    let e : s.block ≡ b = same_block f k b s.block at s.is_block in
    let g : is_crowded t f s.block.instrs j ≡ false = ap (λ (c : Block). is_crowded t f c.instrs j) e ∙ few in
    either-elim p (own_places t f s.block j s.instr) (lowering_places t f s.instr) (λ h. own_few t f s.block j s.instr p s.is_instr g h many) (λ h. few_lowered t f s.instr p h many) s.is_place

stands_within : (t : Target) (f : Function) (k : ℕ) (b : Block) (j : ℕ) (p : Needs) → slice_get f.blocks k ≡ Some b → StandsAt t f k j p → j < length b.instrs
stands_within t f k b j p at s =
    let e : s.block ≡ b = same_block f k b s.block at s.is_block in
    let h : j < length s.block.instrs = slice_get_within s.block.instrs j s.instr s.is_instr in
    let g : length s.block.instrs ≡ length b.instrs = ap (λ (c : Block). length c.instrs) e in
    omega arith

-- no place of block k has too many variables
abbrev pub NoneAt : Target → Function → ℕ → Type 0
NoneAt t f k = (j : ℕ) (p : Needs) → StandsAt t f k j p → TooMany p → ⊥

-- none of the blocks before block k
abbrev pub NoneBefore : Target → Function → ℕ → Type 0
NoneBefore t f k = (l : ℕ) → l < k → NoneAt t f l

pub none_first : (t : Target) (f : Function) → NoneBefore t f 0
none_first t f = λ l h. absurd (omega arith)

pub none_next : (t : Target) (f : Function) (k : ℕ) (b : Block) → slice_get f.blocks k ≡ Some b → IsFirst (is_crowded t f b.instrs) (length b.instrs) None → NoneBefore t f k → NoneBefore t f (k + 1)
none_next t f k b at few before = below_more (NoneAt t f) k before (λ j p s m. stands_few t f k b j p at s (few j (stands_within t f k b j p at s)) m)

pub none_all : (t : Target) (f : Function) (k : ℕ) → length f.blocks ≤ k → NoneBefore t f k → HasFew t f
none_all t f k h before = λ l j p s m.
    let w : l < length f.blocks = slice_get_within f.blocks l s.block s.is_block in
    before l (omega arith) j p s m

stood : (t : Target) (f : Function) (k : ℕ) (b : Block) (i : Instr) (name : Place) → slice_get f.blocks k ≡ Some b → slice_get b.instrs name.at ≡ Some i → is_crowded t f b.instrs name.at ≡ true → ((j : ℕ) → j < name.at → is_crowded t f b.instrs j ≡ false) → b.number ≡ name.block → NoneBefore t f k → FirstPlace t f TooMany name
unfolding places_at
stood t f k b i name at got crowded few block before =
    let many = own_many t f b name.at i got crowded in
    let has = own_up (does is_terminator t i) (list_any (does is_terminator t) (take name.at b.instrs)) (does is_lowered_away t i) t f (drop name.at b.instrs) i many in
    let lengths : length has.place.variables ≡ length (place_variables t f (own_of t b.instrs name.at i)) = ap (λ (ns : List Need). length ns) has.variables in
    record {
      k = k;
      place = has.place;
      stands = record { block = b; instr = i; is_block = at; is_instr = got; is_place = left-in has.place (own_places t f b name.at i) (lowering_places t f i) has.among };
      is_block = block;
      holds = omega arith;
      first = λ l j q s e m. elim e [
        | inl h ↦ before l h j q s m
        | inr h ↦ stands_few t f k b j q at (subst (λ (n : ℕ). StandsAt t f n j q) h.0 s) (few j h.1) m
      ];
    }

pub first_found : (t : Target) (f : Function) (k : ℕ) (b : Block) (j : ℕ) (name : Place) → slice_get f.blocks k ≡ Some b → IsFirst (is_crowded t f b.instrs) (length b.instrs) (Some j) → name.at ≡ j → name.block ≡ b.number → NoneBefore t f k → FirstPlace t f TooMany name
first_found t f k b j name at found is block before =
    let here : IsFirst (is_crowded t f b.instrs) (length b.instrs) (Some name.at) = subst (λ (n : ℕ). IsFirst (is_crowded t f b.instrs) (length b.instrs) (Some n)) (sym is) found in
    elim (slice_get_cases b.instrs name.at).1 [
      | inl x ↦ stood t f k b x.0 name at x.2 here.1 here.2 (sym block) before
      | inr x ↦ absurd (omega (arith, here.0, x.0))
    ]

-- the count of a place's variables
pub counted_is : (t : Target) (f : Function) (is place : List Instr) (j : ℕ) (vs : List Variable) → place ≡ own_instrs t is j → map need_of vs ≡ each_once [] (flat_map (instr_variables t f) place) → nat_lt 6 (length vs) ≡ is_crowded t f is j
counted_is t f is place j vs own made =
    let e : length vs ≡ length (place_variables t f place) = sym (length-map vs need_of) ∙ ap (λ (ns : List Need). length ns) made in
    ap (nat_lt 6) (e ∙ ap (λ (js : List Instr). length (place_variables t f js)) own)

pub ruleset counted = (counted_is)
