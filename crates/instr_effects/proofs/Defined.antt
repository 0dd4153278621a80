-- The explicit definitions among operands, each with its own role, and what they write.
use Rattle.std.proofs.Common.{◌≡◌, ℕ, ◌+◌, ◌<◌, Bool, true, false, cond, not, ◌&&◌, List, [], ◌∷◌, ◌++◌, Option, Some, None, map, flat_map, length, drop, get_or, refl, sym, ap, ◌∙◌, subst, append_assoc, append-nil, ◌≤◌, drop_of_length-le}
use Rattle.std.specs.Prelude.{option_to_list}
use Rattle.std.specs.List.{cons_option}
use Rattle.std.proofs.lemmas.List.{at_drop_more}
use Rattle.target_base.specs.declared.types.Role.{Role}
use Rattle.target_base.specs.declared.types.Target.{Target}
use Rattle.meaning.specs.declared.types.Write.{Write}
use Rattle.meaning.specs.Live.{Among as Member, here as first, there as later}
use Rattle.mir_func.specs.declared.func.RegOp.{RegOp}
use Rattle.mir_func.specs.declared.func.Operand.{Operand}
use Rattle.mir_func.specs.declared.func.Operand.TheVariants as operands
use Rattle.mir_func.specs.Binding.{Definition, after_first, definition_in, definitions, explicit_roles, first_role, is_early, is_implicit_operand, passes}
use Rattle.mir_func.proofs.Bound.{definitions_behind, definitions_none, definitions_step, seated_definitions}
use Rattle.mir_func.specs.Value.{Function}
use Rattle.mir_meaning.specs.Registers.{operand_lanes}
use Rattle.mir_meaning.specs.Items.{explicit_definitions, result_writes, results}
use Rattle.instr_effects.proofs.Members.{member-none, member-elim, left-in, right-in, either-elim, map-of, map-in}

-- an explicit operand takes the next role
pub definitions_seen : (rs left : List Role) (o : Operand) (r : Option Role) → is_implicit_operand o ≡ false → r ≡ first_role (explicit_roles rs) → explicit_roles left ≡ after_first (explicit_roles rs) → (os : List Operand) → definitions rs (o ∷ os) ≡ cons_option (definition_in (r, o)) (definitions left os)
definitions_seen rs left o r h e g os =
    definitions_step (explicit_roles rs) o os
    ∙ (ap (definitions_behind (explicit_roles rs) o os) h
    ∙ (ap (λ q. cons_option (definition_in (q, o)) (seated_definitions (after_first (explicit_roles rs)) os)) (sym e)
    ∙ ap (λ qs. cons_option (definition_in (r, o)) (seated_definitions qs os)) (sym g)))

-- an implicit one takes none of them
pub definitions_passed : (rs : List Role) (o : Operand) → is_implicit_operand o ≡ true → (os : List Operand) → definitions rs (o ∷ os) ≡ definitions rs os
definitions_passed rs o h os = definitions_step (explicit_roles rs) o os ∙ ap (definitions_behind (explicit_roles rs) o os) h

-- a walk over operands from a place on

pub definitions_at : (left behind : List Role) (os : List Operand) (k : ℕ) (o : Operand) (m : Option Definition) → k < length os → o ≡ get_or os k o → ((rest : List Operand) → definitions left (o ∷ rest) ≡ cons_option m (definitions behind rest)) → definitions left (drop k os) ≡ cons_option m (definitions behind (drop (k + 1) os))
definitions_at left behind os k o m h e f = at_drop_more (definitions left) os k o h ∙ (ap (λ x. definitions left (x ∷ drop (k + 1) os)) (sym e) ∙ f (drop (k + 1) os))

of-option : {X : Type 0} (g : Definition → List X) (m : Option Definition) (rest : List Definition) → flat_map g (option_to_list m) ++ flat_map g rest ≡ flat_map g (cons_option m rest)
of-option g None rest = refl
of-option g (Some d) rest = ap (λ x. x ++ flat_map g rest) (append-nil (g d))

pub gathered_option : {X : Type 0} (g : Definition → List X) (start now next : List X) (m : Option Definition) (ds rest : List Definition) → ds ≡ cons_option m rest → next ≡ now ++ flat_map g (option_to_list m) → now ++ flat_map g ds ≡ start → next ++ flat_map g rest ≡ start
gathered_option g start now next m ds rest e f h =
    ap (λ x. x ++ flat_map g rest) f
    ∙ (append_assoc now (flat_map g (option_to_list m)) (flat_map g rest)
    ∙ (ap (λ x. now ++ x) (of-option g m rest ∙ ap (flat_map g) (sym e)) ∙ h))

-- there are none behind the last operand
pub gathered_end : {X : Type 0} (g : Definition → List X) (start now : List X) (left : List Role) (os : List Operand) (k : ℕ) → length os ≤ k → now ++ flat_map g (definitions left (drop k os)) ≡ start → now ≡ start
gathered_end g start now left os k h e =
    sym (append-nil now) ∙ (ap (λ ds. now ++ flat_map g ds) (sym (ap (definitions left) (drop_of_length-le os h) ∙ definitions_none (explicit_roles left))) ∙ e)

-- without their roles they are the explicit definitions
pub definitions_operands : (rs : List Role) (os : List Operand) → map (λ d. d.1) (definitions rs os) ≡ explicit_definitions os
definitions_operands rs os = seated (explicit_roles rs) os
  where
    seated : (qs : List Role) (os : List Operand) → map (λ d. d.1) (seated_definitions qs os) ≡ explicit_definitions os
    seated qs [] = ap (map (λ d. d.1)) (definitions_none qs)
    seated qs (operands.Reg r ∷ os) = ap (map (λ d. d.1)) (definitions_step qs (operands.Reg r) os) ∙ register r.implicit r.def (seated qs os) (seated (after_first qs) os)
      where
        register : (i d : Bool) → map (λ x. x.1) (seated_definitions qs os) ≡ explicit_definitions os → map (λ x. x.1) (seated_definitions (after_first qs) os) ≡ explicit_definitions os → map (λ x. x.1) (cond i (seated_definitions qs os) (cons_option (cond (d && not i) (Some (passes is_early (first_role qs), r)) None) (seated_definitions (after_first qs) os))) ≡ cond (d && not i) (r ∷ explicit_definitions os) (explicit_definitions os)
        register true true same next = same
        register true false same next = same
        register false true same next = ap (λ xs. r ∷ xs) next
        register false false same next = next
    seated qs (operands.Imm z ∷ os) = ap (map (λ d. d.1)) (definitions_step qs (operands.Imm z) os) ∙ seated (after_first qs) os
    seated qs (operands.Block n ∷ os) = ap (map (λ d. d.1)) (definitions_step qs (operands.Block n) os) ∙ seated (after_first qs) os
    seated qs (operands.Stack n ∷ os) = ap (map (λ d. d.1)) (definitions_step qs (operands.Stack n) os) ∙ seated (after_first qs) os
    seated qs (operands.FixedStack n ∷ os) = ap (map (λ d. d.1)) (definitions_step qs (operands.FixedStack n) os) ∙ seated (after_first qs) os
    seated qs (operands.Symbol name ∷ os) = ap (map (λ d. d.1)) (definitions_step qs (operands.Symbol name) os) ∙ seated (after_first qs) os
    seated qs (operands.Index x ∷ os) = ap (map (λ d. d.1)) (definitions_step qs (operands.Index x) os) ∙ seated (after_first qs) os
    seated qs (operands.Mask m ∷ os) = ap (map (λ d. d.1)) (definitions_step qs (operands.Mask m) os) ∙ seated (after_first qs) os

-- what they write

module _ (t : Target) (f : Function) where
  -- it is written by one of them
  abbrev pub ResultOf : List Definition → Write → Type 0
  ResultOf ds w = (d : Definition) × (k : ℕ) × Member d ds × Member w (result_writes t f d.0 k d.1)

  pub results-of : (n : ℕ) (ds : List Definition) (w : Write) → Member w (results t f n ds) → ResultOf ds w
  results-of n [] w m = absurd (member-none w m)
  results-of n (d ∷ ds) w m =
      either-elim w (result_writes t f d.0 n d.1) (results t f (n + length (operand_lanes t f d.1)) ds) (λ j. (d, n, first, j))
      (λ j. let z = results-of (n + length (operand_lanes t f d.1)) ds w j in (z.0, z.1, later z.2, z.3)) m

  -- each of them writes its lanes
  pub results-in : (n : ℕ) (ds : List Definition) (d : Definition) → Member d ds → (k : ℕ) × ((w : Write) → Member w (result_writes t f d.0 k d.1) → Member w (results t f n ds))
  results-in n [] d m = absurd (member-none d m)
  results-in n (x ∷ ds) d m =
      member-elim d x ds (λ e. (n, λ w j. left-in w (result_writes t f x.0 n x.1) (results t f (n + length (operand_lanes t f x.1)) ds) (subst (λ y. Member w (result_writes t f y.0 n y.1)) e j)))
      (λ k. let z = results-in (n + length (operand_lanes t f x.1)) ds d k in (z.0, λ w j. right-in w (result_writes t f x.0 n x.1) (results t f (n + length (operand_lanes t f x.1)) ds) (z.1 w j))) m

-- an explicit definition among operands
pub definition-of : (rs : List Role) (os : List Operand) (d : Definition) → Member d (definitions rs os) → Member d.1 (explicit_definitions os)
definition-of rs os d m = subst (Member d.1) (definitions_operands rs os) (map-in (λ x. x.1) d (definitions rs os) m)

pub definition-in : (rs : List Role) (os : List Operand) (o : RegOp) → Member o (explicit_definitions os) → (d : Definition) × Member d (definitions rs os) × (o ≡ d.1)
definition-in rs os o m = map-of (λ d. d.1) o (definitions rs os) (subst (Member o) (sym (definitions_operands rs os)) m)
