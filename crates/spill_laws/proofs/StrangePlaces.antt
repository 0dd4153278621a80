-- An instruction that names the range nowhere gets no tinies, and stays as it is.
use Rattle.std.proofs.Common.{◌≡◌, ◌∷◌, ◌++◌, ◌∙◌, ◌+◌, ◌&&◌, ◌||◌, not, ℕ, suc, Bool, true, false, cond, List, Option, Some, None, filter, flat_map, length, map, refl, sym, ap, []}
use Rattle.std.specs.Prelude.{filter_map, nat_eq}
use Rattle.std.specs.List.{cons_option}
use Rattle.target_base.specs.declared.types.Role.{Role}
use Rattle.meaning.specs.Live.{Among as Member, here as first, there as later}
use Rattle.target_base.specs.Roles.{is_tied}
use Rattle.mir_func.specs.declared.func.Loc.{Loc}
use Rattle.mir_func.specs.declared.func.Loc.TheVariants.{Fixed, Virtual}
use Rattle.mir_func.specs.declared.func.RegOp.{RegOp}
use Rattle.mir_func.specs.declared.func.Operand.{Operand}
use Rattle.mir_func.specs.declared.func.Operand.TheVariants as operands
use Rattle.mir_func.specs.declared.func.Instr.{Instr}
use Rattle.mir_func.specs.Binding.{Bound, bound, explicit_bound, explicit_roles, is_early, numbered, operand_class, passes, registers, roles_of, takes_many}
use Rattle.mir_meaning.specs.Places.{Defining, Using, Variable, each_once, has_tied_use, is_defining, operand_variable, operand_variables, register_variable, variable}
use Rattle.mir_meaning.specs.Points.{is_range}
use Rattle.live_laws.proofs.Effects.Moving.{some-same}
use Rattle.lowering_laws.proofs.Arrivals.{eqb-sym}
use Rattle.lowering_laws.proofs.RulesStay.{numbered-of}
use Rattle.lowering_laws.proofs.Seated.{bound-operand, register-in, told-of}
use Rattle.spiller.specs.Rematerialised.{ways_read}
use Rattle.spiller.specs.Setting.{Spilling, is_own}
use Rattle.spiller.specs.Spilled.{Change, OwnDefinition, Seats, becomes, definitions_in, given, numbered_operands, own_definition, place_change, place_name, seated_operand, stored, tied_reload, with_tinies}
use Rattle.spill_laws.specs.Seats.{StrangePlaces}
use Rattle.spill_laws.proofs.Constants.{map-more}
use Rattle.spill_laws.proofs.TinyRules.{bound-register}
use Rattle.spill_laws.proofs.Turned.{others-stay}

filter-none : {X : Type 0} (p : X → Bool) (xs : List X) → ((x : X) → Member x xs → p x ≡ false) → filter p xs ≡ []
filter-none p [] h = refl
filter-none p (x ∷ xs) h = λ j. cond (h x first j) (x ∷ filter p xs) (filter-none p xs (λ y m. h y (later m)) j)

told-none : {X Y : Type 0} (g : X → Option Y) (xs : List X) → ((x : X) → Member x xs → g x ≡ None) → filter_map g xs ≡ []
told-none g [] h = refl
told-none g (x ∷ xs) h = λ j. cons_option (h x first j) (told-none g xs (λ y m. h y (later m)) j)

operands-are : (n : ℕ) (rs : List Role) (os : List Operand) → map (λ (p : ℕ × Bound). p.1.1) (numbered n (explicit_bound rs os)) ≡ os
operands-are n rs [] = refl
operands-are n [] (o ∷ os) = ap (λ qs. o ∷ qs) (operands-are (suc n) [] os)
operands-are n (r ∷ rs) (o ∷ os) = ap (λ qs. o ∷ qs) (operands-are (suc n) (cond (takes_many r) (r ∷ rs) rs) os)

module _ (s : Spilling) (c : ℕ) (i : Instr) (strange : (o : RegOp) → Member o (registers i.operands) → is_own s o ≡ false) where
  -- no variable is the range's
  none-own : (x : Variable) → Member x (operand_variables s.target s.func i) → nat_eq x.range s.range ≡ false
  none-own x m =
      let z = told-of (λ (p : ℕ × Bound). operand_variable s.target s.func (has_tied_use s.target i p.0) p.1) x (numbered 0 (bound s.target i)) m in
      by z.0.0 z.0.1.0 z.0.1.1 (numbered-of 0 (bound s.target i) z.0 z.1) z.2
    where
      by-loc : (b : Bool) (r : Option Role) (o : RegOp) (l : Loc) → is_range s.range l ≡ false → register_variable s.target s.func b r o l ≡ Some x → nat_eq x.range s.range ≡ false
      by-loc b r o (Fixed q) e g = absurd (cc)
      by-loc b r o (Virtual w) e g = go (variable (Defining b (passes is_early r)) w o.index (operand_class s.target s.func r o)) (variable Using w o.index (operand_class s.target s.func r o)) refl refl o.def (o.undef || passes is_tied r) g
        where
          range-of : (y : Variable) → Some y ≡ Some x → y.range ≡ w → nat_eq x.range s.range ≡ false
          range-of y q u = ap (λ n. nat_eq n s.range) (ap (λ (v : Variable). v.range) (sym (some-same y x q)) ∙ u) ∙ (eqb-sym w s.range ∙ e)

          go : (a b : Variable) → a.range ≡ w → b.range ≡ w → (d u : Bool) → cond d (Some a) (cond u None (Some b)) ≡ Some x → nat_eq x.range s.range ≡ false
          go a b f h true u q = range-of a q f
          go a b f h false true q = absurd (cc)
          go a b f h false false q = range-of b q h

      by : (n : ℕ) (r : Option Role) (o : Operand) → Member (r, o) (bound s.target i) → operand_variable s.target s.func (has_tied_use s.target i n) (r, o) ≡ Some x → nat_eq x.range s.range ≡ false
      by n r (operands.Reg o) m g = by-loc (has_tied_use s.target i n) r o o.loc (strange o (bound-register s.target i (r, operands.Reg o) m o refl)) g
      by n r o m g = absurd (cc)

  ways-none : ways_read s (i ∷ []) ≡ []
  ways-none = ap (λ xs. filter (λ x. not (is_defining x.kind)) (each_once [] (xs ++ []))) (filter-none (λ (x : Variable). nat_eq x.range s.range) (operand_variables s.target s.func i) none-own)

  there : (n : ℕ) (r : Option Role) (o : RegOp) → Member (n, (r, operands.Reg o)) (numbered_operands s.target i) → is_own s o ≡ false
  there n r o m =
      let rs = explicit_roles (roles_of s.target i) in
      strange o (register-in o i.operands (bound-operand rs i.operands r (operands.Reg o) (numbered-of 0 (explicit_bound rs i.operands) (n, (r, operands.Reg o)) m)))

  definitions-none : definitions_in s (i ∷ []) ≡ []
  definitions-none = ap (λ xs. xs ++ []) (told-none (own_definition s i) (numbered_operands s.target i) (λ p m. by p.0 p.1.0 p.1.1 m))
    where
      by : (n : ℕ) (r : Option Role) (o : Operand) → Member (n, (r, o)) (numbered_operands s.target i) → own_definition s i (n, (r, o)) ≡ None
      by n r (operands.Reg o) m = ap (λ b. cond (b && o.def) (Some (record { by = i; number = n; index = o.index; class = operand_class s.target s.func r o })) None) (there n r o m)
      by n r o m = refl

  stays : (x : Seats) → with_tinies s x i ≡ i
  stays x = ap (λ os. record i { operands = os }) (map-more (seated_operand s x i) (λ (p : ℕ × Bound). p.1.1) (numbered_operands s.target i) (λ p m. by p.0 p.1.0 p.1.1 m) ∙ operands-are 0 (explicit_roles (roles_of s.target i)) i.operands)
    where
      by : (n : ℕ) (r : Option Role) (o : Operand) → Member (n, (r, o)) (numbered_operands s.target i) → seated_operand s x i (n, (r, o)) ≡ o
      by n r (operands.Reg o) m = ap operands.Reg (others-stay s x i n r o (there n r o m))
      by n r o m = refl

  -- a place by its ways of reading and its definitions
  change-by : List Variable → List OwnDefinition → Change
  change-by ways definitions =
      let x : Seats = record { ways = numbered c ways; definitions = numbered (c + length ways) definitions } in
      record {
        tinies = map (λ k. (k, place_name (i ∷ []))) (map (λ p. p.1.class) x.ways ++ map (λ p. p.1.class) x.definitions);
        before = map (given s (i ∷ [])) x.ways ++ flat_map (tied_reload s) x.definitions;
        own = map (with_tinies s x) (i ∷ []);
        behind = flat_map (stored s) x.definitions;
      }

  place-stays : place_change s c (i ∷ []) ≡ becomes (i ∷ [])
  unfolding change-by
  place-stays =
      (λ j. change-by (ways-none j) (definitions-none j))
      ∙ (λ j. record { tinies = []; before = []; own = stays (record { ways = []; definitions = [] }) j ∷ []; behind = [] })

pub strange_places : StrangePlaces
strange_places s c i strange = place-stays s c i strange
