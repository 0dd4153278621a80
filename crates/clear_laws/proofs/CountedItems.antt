-- What counted instructions write: lanes of their explicit definitions, and units.
use Rattle.std.proofs.Common.{◌≡◌, ◌∷◌, ◌++◌, ◌∙◌, ◌+◌, not, ℕ, suc, Bool, true, false, cond, List, length, map, refl, sym, ap, subst, []}
use Rattle.std.specs.Prelude.{filter}
use Rattle.std.specs.List.{list_any}
use Rattle.target_base.specs.declared.types.Effect.{Effect}
use Rattle.target_base.specs.declared.types.Effect.TheVariants as effects
use Rattle.target_base.specs.declared.types.OpaqueKind.{OpaqueKind}
use Rattle.target_base.specs.declared.types.OpaqueKind.TheVariants as kinds
use Rattle.target_base.specs.declared.types.Role.{Role}
use Rattle.target_base.specs.declared.types.Target.{Target}
use Rattle.target_base.specs.declared.types.Unit.{Unit as UnitNumber}
use Rattle.target_base.specs.Registers.{units_of}
use Rattle.meaning.specs.Lanes.{Writes, filled, same_lane}
use Rattle.meaning.specs.Live.{Among as Member, here as first, there as later}
use Rattle.meaning.specs.declared.types.Fill.{Fill}
use Rattle.meaning.specs.declared.types.Fill.TheVariants.{Computed, Moved}
use Rattle.meaning.specs.declared.types.Lane.{Lane}
use Rattle.meaning.specs.declared.types.Lane.TheVariants.{UnitLane}
use Rattle.meaning.specs.declared.types.Source.TheVariants.{FromLane, Undef}
use Rattle.meaning.specs.declared.types.Write.{Write}
use Rattle.laws.proofs.Quiet.{same-refl, same-true}
use Rattle.mir_func.specs.declared.func.Loc.{Loc}
use Rattle.mir_func.specs.declared.func.Loc.TheVariants.{Fixed, Virtual}
use Rattle.mir_func.specs.declared.func.RegOp.{RegOp}
use Rattle.mir_func.specs.declared.func.Operand.{Operand}
use Rattle.mir_func.specs.declared.func.Instr.{Instr}
use Rattle.mir_func.specs.Value.{Function}
use Rattle.mir_func.specs.Binding.{Definition, definitions, implicit_registers, implicit_roles, roles_of}
use Rattle.mir_meaning.specs.Items.{all_lanes, answered, clobbered, computed, defined_lanes, further_writes, implicit_definitions, implicit_writes, is_flags, opaque_clobbers, preserves, result_writes, results, undefined, unreserved}
use Rattle.mir_meaning.specs.Registers.{is_reserved, located_lanes, numbers, operand_lanes, undefined_lanes}
use Rattle.mir_meaning.specs.Renaming.{IsFixed}
use Rattle.instr_effects.proofs.Members.{either-elim, filter-of, flat-of, left-in, map-of, member-elim, member-none, right-in}
use Rattle.spill_laws.proofs.SlotWrites.{undefined-lane}
use Rattle.clear_laws.proofs.PlaceBounds.{Wrote}

-- a lane that is written holds what one of the writes gives it
pub filled-wrote : (ws : Writes) (a : Lane) → Wrote ws a → (w : Write) × Member w ws × (w.lane ≡ a) × (filled ws a ≡ w.fill)
filled-wrote [] a z = absurd (member-none z.0 z.1)
filled-wrote (x ∷ ws) a z = go (same_lane x.lane a) refl (λ k. filled-wrote ws a k)
  where
    go : (b : Bool) → same_lane x.lane a ≡ b → (Wrote ws a → (w : Write) × Member w ws × (w.lane ≡ a) × (filled ws a ≡ w.fill)) → (w : Write) × Member w (x ∷ ws) × (w.lane ≡ a) × (cond b x.fill (filled ws a) ≡ w.fill)
    go true e ih = (x, first, same-true x.lane a e, refl)
    go false e ih =
        let y = ih (member-elim z.0 x ws (λ q. absurd (let h : same_lane x.lane a ≡ true = ap (λ b. same_lane b a) (sym (ap (λ (y : Write). y.lane) q) ∙ z.2) ∙ same-refl a in cc)) (λ k. (z.0, k, z.2)) z.1) in
        (y.0, later y.1, y.2, y.3)

computed-of : (e : Bool) (n : ℕ) (ls : List Lane) (w : Write) → Member w (computed e n ls) → Member w.lane ls × (w.early ≡ e) × ((k : ℕ) × (w.fill ≡ Computed k))
computed-of e n [] w m = absurd (member-none w m)
computed-of e n (l ∷ ls) w m =
    member-elim w _ (computed e (suc n) ls)
    (λ q. (subst (λ y. Member y (l ∷ ls)) (sym (ap (λ (y : Write). y.lane) q)) first, ap (λ (y : Write). y.early) q, (n, ap (λ (y : Write). y.fill) q)))
    (λ k. let z = computed-of e (suc n) ls w k in (later z.0, z.1, z.2)) m

computed-in : (e : Bool) (n : ℕ) (ls : List Lane) (a : Lane) → Member a ls → (w : Write) × Member w (computed e n ls) × (w.lane ≡ a) × (w.early ≡ e)
computed-in e n [] a m = absurd (member-none a m)
computed-in e n (l ∷ ls) a m =
    member-elim a l ls
    (λ q. (record { lane = l; fill = Computed n; early = e }, first, sym q, refl))
    (λ k. let z = computed-in e (suc n) ls a k in (z.0, later z.1, z.2, z.3)) m

-- a fill that moves no lane
abbrev pub moves-nothing : Fill → Type 0
moves-nothing f = (l : Lane) → f ≡ Moved (FromLane l) → ⊥

computed-nothing : (f : Fill) (k : ℕ) → f ≡ Computed k → moves-nothing f
computed-nothing f k e l h = let q : Computed k ≡ Moved (FromLane l) = sym e ∙ h in cc

undef-nothing : (f : Fill) → f ≡ Moved Undef → moves-nothing f
undef-nothing f e l h = let q : Moved Undef ≡ Moved (FromLane l) = sym e ∙ h in cc

module _ (t : Target) (g : Function) where
  pub record FromDefinition (ds : List Definition) (w : Write) : Type 0 where
    pub definition : Definition
    pub among : Member definition ds
    pub early : w.early ≡ definition.0
    pub lane : Member w.lane (operand_lanes t g definition.1)
    pub nothing : moves-nothing w.fill

  -- what explicit definitions write, where none is `undef`
  pub results-of : (n : ℕ) (ds : List Definition) → ((d : Definition) → Member d ds → undefined_lanes t g d.1 ≡ []) → (w : Write) → Member w (results t g n ds) → FromDefinition ds w
  results-of n [] h w m = absurd (member-none w m)
  results-of n (d ∷ ds) h w m =
      either-elim w (result_writes t g d.0 n d.1) (results t g (n + length (operand_lanes t g d.1)) ds)
      (λ k. either-elim w (computed d.0 n (operand_lanes t g d.1)) (undefined d.0 (undefined_lanes t g d.1))
      (λ q. let z = computed-of d.0 n (operand_lanes t g d.1) w q in record { definition = d; among = first; early = z.1; lane = z.0; nothing = computed-nothing w.fill z.2.0 z.2.1 })
      (λ q. absurd (member-none w.lane (subst (Member w.lane) (h d first) (undefined-lane d.0 (undefined_lanes t g d.1) w q).0))) k)
      (λ k. let z = results-of (n + length (operand_lanes t g d.1)) ds (λ u q. h u (later q)) w k in record { definition = z.definition; among = later z.among; early = z.early; lane = z.lane; nothing = z.nothing }) m

  pub results-in : (n : ℕ) (ds : List Definition) (d : Definition) (a : Lane) → Member d ds → Member a (operand_lanes t g d.1) → (w : Write) × Member w (results t g n ds) × (w.lane ≡ a) × (w.early ≡ d.0)
  results-in n [] d a m q = absurd (member-none d m)
  results-in n (x ∷ ds) d a m q =
      let tail = results t g (n + length (operand_lanes t g x.1)) ds in
      member-elim d x ds
      (λ e.
      let z = computed-in x.0 n (operand_lanes t g x.1) a (subst (λ (y : Definition). Member a (operand_lanes t g y.1)) e q) in
      (z.0, left-in z.0 (result_writes t g x.0 n x.1) tail (left-in z.0 (computed x.0 n (operand_lanes t g x.1)) (undefined x.0 (undefined_lanes t g x.1)) z.1), z.2, z.3 ∙ ap (λ (y : Definition). y.0) (sym e)))
      (λ k. let z = results-in (n + length (operand_lanes t g x.1)) ds d a k q in (z.0, right-in z.0 (result_writes t g x.0 n x.1) tail z.1, z.2, z.3)) m

  -- all else that is written is of units

  abbrev pub IsUnit : Lane → Type 0
  IsUnit a = (u : ℕ) × (a ≡ UnitLane u)

  abbrev AllUnits : List Lane → Type 0
  AllUnits ls = (a : Lane) → Member a ls → IsUnit a

  fixed-units : (l : Loc) (x : RegOp) → IsFixed l → (a : Lane) → Member a (located_lanes t g l x.index) → IsUnit a
  fixed-units (Virtual w) x h a m = absurd h
  fixed-units (Fixed r) x h a m = let z = map-of (λ (u : UnitNumber). UnitLane u.0) a (units_of t r) m in (z.0.0, z.2)

  module _ (os : List Operand) (fixed : (o : RegOp) → Member o (implicit_registers os) → IsFixed o.loc) where
    some-units : (rs : List RegOp) → ((o : RegOp) → Member o rs → Member o (implicit_registers os)) → AllUnits (all_lanes t g rs)
    some-units rs h a m = let z = flat-of (operand_lanes t g) a rs m in fixed-units z.0.loc z.0 (fixed z.0 (h z.0 z.1)) a z.2

    definitions-units : AllUnits (all_lanes t g (implicit_definitions os))
    definitions-units = some-units (implicit_definitions os) (λ o m. (filter-of (λ (x : RegOp). x.def) o (implicit_registers os) m).0)

    flags-units : (rs : List Role) → AllUnits (all_lanes t g (filter (is_flags rs) (implicit_definitions os)))
    flags-units rs = some-units (filter (is_flags rs) (implicit_definitions os)) (λ o m. (filter-of (λ (x : RegOp). x.def) o (implicit_registers os) (filter-of (is_flags rs) o (implicit_definitions os) m).0).0)

    free-units : (ls : List Lane) → AllUnits ls → AllUnits (unreserved t ls)
    free-units ls h a m = h a (filter-of (λ l. not (is_reserved t l)) a ls m).0

    clobbers-units : AllUnits (clobbered t os)
    clobbers-units a m = free-units (map UnitLane (filter (λ u. not (list_any (preserves t u) os)) (numbers 0 (length t.units)))) (λ b k. let z = map-of UnitLane b (filter (λ u. not (list_any (preserves t u) os)) (numbers 0 (length t.units))) k in (z.0, z.2)) a m

    abbrev Fits : Write → Type 0
    Fits w = IsUnit w.lane × moves-nothing w.fill

    computed-fits : (n : ℕ) (ls : List Lane) → AllUnits ls → (w : Write) → Member w (computed false n ls) → Fits w
    computed-fits n ls h w m = let z = computed-of false n ls w m in (h w.lane z.0, computed-nothing w.fill z.2.0 z.2.1)

    undefined-fits : (ls : List Lane) → AllUnits ls → (w : Write) → Member w (undefined false ls) → Fits w
    undefined-fits ls h w m = let z = undefined-lane false ls w m in (h w.lane z.0, undef-nothing w.fill z.1)

    implicit-fits : (e : Effect) (rs : List Role) (w : Write) → Member w (implicit_writes t g e rs os) → Fits w
    implicit-fits effects.Cmp rs w m =
        let ds = implicit_definitions os in
        let one = computed false 0 (all_lanes t g (filter (is_flags rs) ds)) in
        let two = undefined false (all_lanes t g ds) in
        either-elim w one two (computed-fits 0 (all_lanes t g (filter (is_flags rs) ds)) (flags-units rs) w) (undefined-fits (all_lanes t g ds) definitions-units w) (filter-of (λ (y : Write). not (is_reserved t y.lane)) w (one ++ two) m).0
    implicit-fits effects.Call rs w m =
        either-elim w (computed false 0 (answered t g os)) (undefined false (clobbered t os)) (computed-fits 0 (answered t g os) (free-units (all_lanes t g (implicit_definitions os)) definitions-units) w) (undefined-fits (clobbered t os) clobbers-units w) m
    implicit-fits e rs w m = undefined-fits (unreserved t (all_lanes t g (implicit_definitions os))) (free-units (all_lanes t g (implicit_definitions os)) definitions-units) w m

    opaque-fits : (kind : OpaqueKind) (w : Write) → Member w (opaque_clobbers t kind os) → Fits w
    opaque-fits kinds.Call w m = undefined-fits (clobbered t os) clobbers-units w m
    opaque-fits kind w m = absurd (member-none w m)

  pub further-fits : (e : Effect) (i : Instr) → ((o : RegOp) → Member o (implicit_registers i.operands) → IsFixed o.loc) → (w : Write) → Member w (further_writes t g e i) → IsUnit w.lane × moves-nothing w.fill
  further-fits (effects.Opaque kind) i fixed w m =
      let n = length (defined_lanes t g (definitions (roles_of t i) i.operands)) in
      either-elim w (computed false n (all_lanes t g (implicit_definitions i.operands))) (opaque_clobbers t kind i.operands)
      (computed-fits i.operands fixed n (all_lanes t g (implicit_definitions i.operands)) (definitions-units i.operands fixed) w) (opaque-fits i.operands fixed kind w) m
  further-fits e i fixed w m = implicit-fits i.operands fixed e (implicit_roles (roles_of t i)) w m
