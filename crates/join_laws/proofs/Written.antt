-- What a counted instruction writes and reads of its explicit operands.
use Rattle.std.proofs.Common.{◌≡◌, ◌∷◌, ◌++◌, ◌∙◌, ◌+◌, ◌&&◌, not, ℕ, suc, Bool, true, false, cond, List, [], Option, Some, None, map, length, refl, sym, ap, subst}
use Rattle.std.specs.Prelude.{filter_map, option_map}
use Rattle.target_base.specs.declared.types.Effect.{Effect}
use Rattle.target_base.specs.declared.types.Role.{Role}
use Rattle.target_base.specs.declared.types.Target.{Target}
use Rattle.target_base.specs.Roles.{is_silent}
use Rattle.meaning.specs.Code.{Counted, Item, Silent}
use Rattle.meaning.specs.Fold.{copies}
use Rattle.meaning.specs.Lanes.{Writes}
use Rattle.meaning.specs.Live.{Among as Member, here as first, there as later}
use Rattle.meaning.specs.declared.types.Lane.{Lane}
use Rattle.meaning.specs.declared.types.Source.{Source}
use Rattle.meaning.specs.declared.types.Source.TheVariants.{FromLane, Undef}
use Rattle.meaning.specs.declared.types.Write.{Write}
use Rattle.mir_func.specs.declared.func.RegOp.{RegOp}
use Rattle.mir_func.specs.declared.func.Operand.{Operand}
use Rattle.mir_func.specs.declared.func.Operand.TheVariants as operands
use Rattle.mir_func.specs.declared.func.Instr.{Instr}
use Rattle.mir_func.specs.declared.func.Block.{Block}
use Rattle.mir_func.specs.Value.{Function}
use Rattle.mir_func.specs.Binding.{Bound, Definition, as_register, definition_in, definitions, effect_of, explicit_bound, explicit_operands, explicit_roles, is_definition, is_early, is_early_clobber, is_implicit_operand, is_terminator, passes, registers, roles_of}
use Rattle.mir_meaning.specs.Registers.{operand_lanes, undefined_lanes, use_sources}
use Rattle.mir_meaning.specs.Items.{computed, counted_writes, first_width, further_writes, rest_of, results, silent_reads, silent_writes, undefined, use_value, value_of, values}
use Rattle.mir_meaning.specs.Codes.{effect_item, item_of, target_of, way, ways_out}
use Rattle.instr_effects.proofs.Members.{filter-in, left-in, map-in, member-elim, member-none, right-in}
use Rattle.lowering_laws.proofs.Seated.{register-of, some-role, told-in, told-of}

-- a write of the lane, early or not, of a value that is computed
pub record IsWritten (ws : Writes) (l : Lane) (early : Bool) : Type 0 where
  pub write : Write
  pub there : Member write ws
  pub lane : write.lane ≡ l
  pub when : write.early ≡ early
  pub fresh : (m : Lane → Lane) → copies m write.lane write.fill ≡ false

written-left : (ws vs : Writes) (l : Lane) (early : Bool) → IsWritten ws l early → IsWritten (ws ++ vs) l early
written-left ws vs l early z = record { write = z.write; there = left-in z.write ws vs z.there; lane = z.lane; when = z.when; fresh = z.fresh }

written-right : (ws vs : Writes) (l : Lane) (early : Bool) → IsWritten vs l early → IsWritten (ws ++ vs) l early
written-right ws vs l early z = record { write = z.write; there = right-in z.write ws vs z.there; lane = z.lane; when = z.when; fresh = z.fresh }

written-later : (w : Write) (ws : Writes) (l : Lane) (early : Bool) → IsWritten ws l early → IsWritten (w ∷ ws) l early
written-later w ws l early z = record { write = z.write; there = later z.there; lane = z.lane; when = z.when; fresh = z.fresh }

computed-written : (early : Bool) (n : ℕ) (ls : List Lane) (l : Lane) → Member l ls → IsWritten (computed early n ls) l early
computed-written early n [] l m = absurd (member-none l m)
computed-written early n (k ∷ ls) l m =
    member-elim l k ls (λ e. record { write = _; there = first; lane = sym e; when = refl; fresh = λ h. refl }) (λ j. written-later _ (computed early (suc n) ls) l early (computed-written early (suc n) ls l j)) m

results-written : (t : Target) (f : Function) (n : ℕ) (ds : List Definition) (x : Definition) → Member x ds → (l : Lane) → Member l (operand_lanes t f x.1) → IsWritten (results t f n ds) l x.0
results-written t f n [] x m l k = absurd (member-none x m)
results-written t f n (d ∷ ds) x m l k =
    let own = computed d.0 n (operand_lanes t f d.1) in
    let others = undefined d.0 (undefined_lanes t f d.1) in
    let rest = results t f (n + length (operand_lanes t f d.1)) ds in
    member-elim x d ds
    (λ e.
    let at : IsWritten (computed d.0 n (operand_lanes t f d.1)) l d.0 = computed-written d.0 n (operand_lanes t f d.1) l (subst (λ (y : Definition). Member l (operand_lanes t f y.1)) e k) in
    subst (λ u. IsWritten ((own ++ others) ++ rest) l u) (sym (ap (λ (y : Definition). y.0) e)) (written-left (own ++ others) rest l d.0 (written-left own others l d.0 at)))
    (λ y. written-right (own ++ others) rest l x.0 (results-written t f (n + length (operand_lanes t f d.1)) ds x y l k)) m

-- a register is one of the operands
pub operand-of : (os : List Operand) (o : RegOp) → Member o (registers os) → Member (operands.Reg o) os
operand-of os o m = let z = told-of as_register o os m in subst (λ x. Member x os) (register-of z.0 o z.2) z.1

explicit-of : (os : List Operand) (o : RegOp) → Member o (registers os) → o.implicit ≡ false → Member (operands.Reg o) (explicit_operands os)
explicit-of os o m e = filter-in (λ x. not (is_implicit_operand x)) (operands.Reg o) os (operand-of os o m) (ap not e)

module _ (t : Target) (f : Function) (i : Instr) (e : Effect) where
  abbrev bs : List Bound
  bs = explicit_bound (explicit_roles (roles_of t i)) (explicit_operands i.operands)

  -- the lanes of a definition are written

  bound-written : (q : Option Role) (d : RegOp) → Member (q, operands.Reg d) bs → is_definition d ≡ true → (l : Lane) → Member l (operand_lanes t f d) → IsWritten (counted_writes t f e i) l (passes is_early q)
  bound-written q d m h l k =
      let there : Member (passes is_early q, d) (definitions (roles_of t i) i.operands) = told-in definition_in (passes is_early q, d) (q, operands.Reg d) bs m (ap (λ u. cond u (Some (passes is_early q, d)) None) h) in
      written-left (results t f 0 (definitions (roles_of t i) i.operands)) (further_writes t f e i) l (passes is_early q)
      (results-written t f 0 (definitions (roles_of t i) i.operands) (passes is_early q, d) there l k)

  pub definition-written : (d : RegOp) → Member d (registers i.operands) → d.def ≡ true → d.implicit ≡ false → (l : Lane) → Member l (operand_lanes t f d) → (early : Bool) × IsWritten (counted_writes t f e i) l early
  definition-written d m h p l k =
      let z = some-role (explicit_roles (roles_of t i)) (explicit_operands i.operands) (operands.Reg d) (explicit-of i.operands d m p) in
      (passes is_early z.0, bound-written z.0 d z.1 (λ x. h x && not (p x)) l k)

  pub early-written : (q : Option Role) (d : RegOp) → Member (q, operands.Reg d) bs → passes is_early q ≡ true → is_definition d ≡ true → (l : Lane) → Member l (operand_lanes t f d) → IsWritten (counted_writes t f e i) l true
  early-written q d m early h l k = subst (IsWritten (counted_writes t f e i) l) early (bound-written q d m h l k)

  -- the lanes of a use are read

  pub use-read : (u : RegOp) → Member u (registers i.operands) → u.def ≡ false → u.implicit ≡ false → u.undef ≡ false → (l : Lane) → Member l (operand_lanes t f u) → Member (use_sources t f u) (map (λ v. v.0) (values t f e i)) × Member (FromLane l) (use_sources t f u)
  use-read u m d p q l k = (
    map-in (λ v. v.0) (use_value t f u) (values t f e i) (left-in (use_value t f u) (filter_map (value_of t f e (first_width t f (registers i.operands))) (explicit_operands i.operands)) _
        (told-in (value_of t f e (first_width t f (registers i.operands))) (use_value t f u) (operands.Reg u) (explicit_operands i.operands) (explicit-of i.operands u m p) (ap (λ x. cond x None (Some (use_value t f u))) d))),
    subst (Member (FromLane l)) (sym (ap (λ x. map (cond {A = Lane → Source} x (λ y. Undef) FromLane) (operand_lanes t f u)) q)) (map-in FromLane l (operand_lanes t f u) k),
  )

-- the item of a counted instruction
pub counted-item : (t : Target) (f : Function) (b : Block) (i : Instr) (e : Effect) → effect_of t i ≡ Some e → is_silent e ≡ false
    → item_of t f b i ≡ Counted (rest_of t f e i) (map (λ v. v.0) (values t f e i)) (counted_writes t f e i) (option_map (way t f b.number) (target_of i.operands)) (cond (is_terminator e) (ways_out t f b) [])
unfolding item_of
counted-item t f b i e known s =
    ap (λ q. elim q as (λ o. Item) [ None ↦ Silent [] [] | Some x ↦ effect_item t f b i x ]) known
    ∙ ap (λ c. cond c (Silent (silent_reads t f e i.operands) (silent_writes t f e (is_early_clobber (roles_of t i)) i.operands)) (Counted (rest_of t f e i) (map (λ v. v.0) (values t f e i)) (counted_writes t f e i) (option_map (way t f b.number) (target_of i.operands)) (cond (is_terminator e) (ways_out t f b) []))) s
