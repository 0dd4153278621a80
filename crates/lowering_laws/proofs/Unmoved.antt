-- Counted instructions move nothing; and some facts on lists, locations and items.
use Rattle.std.proofs.Common.{◌≡◌, ◌∷◌, ◌++◌, ◌∙◌, ◌||◌, ◌+◌, not, ℕ, suc, Bool, true, false, cond, List, Some, None, map, filter, length, refl, ap, []}
use Rattle.std.specs.List.{list_any}
use Rattle.target_base.specs.declared.types.Effect.{Effect}
use Rattle.target_base.specs.declared.types.Effect.TheVariants as effects
use Rattle.target_base.specs.declared.types.OpaqueKind.{OpaqueKind}
use Rattle.target_base.specs.declared.types.OpaqueKind.TheVariants as kinds
use Rattle.target_base.specs.declared.types.Role.{Role}
use Rattle.target_base.specs.declared.types.Target.{Target}
use Rattle.meaning.specs.Code.{Item, Silent}
use Rattle.meaning.specs.Lanes.{Writes, filled, same_lane, settled}
use Rattle.meaning.specs.Live.{Among}
use Rattle.meaning.specs.declared.types.Lane.{Lane}
use Rattle.meaning.specs.declared.types.Source.TheVariants.{Undef}
use Rattle.mir_func.specs.declared.func.Loc.{Loc}
use Rattle.mir_func.specs.declared.func.Loc.TheVariants.{Fixed, Virtual}
use Rattle.mir_func.specs.declared.func.Operand.{Operand}
use Rattle.mir_func.specs.declared.func.Instr.{Instr}
use Rattle.mir_func.specs.declared.func.Block.{Block}
use Rattle.mir_func.specs.Value.{Function}
use Rattle.mir_func.specs.Binding.{Definition, definitions, effect_of, implicit_roles, roles_of, same_loc}
use Rattle.mir_meaning.specs.Registers.{is_reserved, operand_lanes, undefined_lanes}
use Rattle.mir_meaning.specs.Items.{all_lanes, answered, clobbered, computed, counted_writes, defined_lanes, implicit_definitions, is_flags, unreserved, further_writes, implicit_writes, kept, opaque_clobbers, result_writes, results, undefined}
use Rattle.mir_meaning.specs.Codes.{effect_item, item_of}
use Rattle.instr_effects.proofs.Members.{member-elim, member-none}
use Rattle.lowering_laws.proofs.Arrivals.{eqb-sym}
use Rattle.lowering_laws.proofs.Traced.{is_written}

not-true : (b : Bool) → not b ≡ true → b ≡ false
not-true true e = absurd (cc)
not-true false e = refl

pub none-of : {A : Type 0} (p : A → Bool) (x : A) (xs : List A) → list_any p xs ≡ false → Among x xs → p x ≡ false
none-of p x [] e m = absurd (member-none x m)
none-of p x (y ∷ xs) e m = member-elim x y xs (λ q. ap p q ∙ (halves (p y) (list_any p xs) e).0) (λ k. none-of p x xs (halves (p y) (list_any p xs) e).1 k) m
  where
    halves : (a b : Bool) → (a || b) ≡ false → (a ≡ false) × (b ≡ false)
    halves true b q = absurd (cc)
    halves false b q = (refl, q)

pub map-length : {A B : Type 0} (g : A → B) (xs : List A) → length (map g xs) ≡ length xs
map-length g [] = refl
map-length g (y ∷ xs) = ap suc (map-length g xs)

pub loc-sym : (l m : Loc) → same_loc m l ≡ same_loc l m
loc-sym (Virtual v) (Virtual w) = eqb-sym w v
loc-sym (Fixed r) (Fixed q) = eqb-sym q.0 r.0
loc-sym (Virtual v) (Fixed q) = refl
loc-sym (Fixed r) (Virtual w) = refl

-- counted instructions move nothing

abbrev NoMoves : Writes → Type 0
NoMoves [] = Unit {0}
NoMoves (w ∷ ws) = (settled w.fill ≡ Undef) × NoMoves ws

computed-moves : (early : Bool) (n : ℕ) (ls : List Lane) → NoMoves (computed early n ls)
computed-moves early n [] = tt
computed-moves early n (l ∷ ls) = (refl, computed-moves early (suc n) ls)

undefined-moves : (early : Bool) (ls : List Lane) → NoMoves (undefined early ls)
undefined-moves early [] = tt
undefined-moves early (l ∷ ls) = (refl, undefined-moves early ls)

append-moves : (xs ys : Writes) → NoMoves xs → NoMoves ys → NoMoves (xs ++ ys)
append-moves [] ys x y = y
append-moves (w ∷ xs) ys x y = (x.0, append-moves xs ys x.1 y)

kept-moves : (t : Target) (ws : Writes) → NoMoves ws → NoMoves (kept t ws)
kept-moves t [] x = tt
kept-moves t (w ∷ ws) x = go (not (is_reserved t w.lane)) (kept-moves t ws x.1)
  where
    go : (y : Bool) → NoMoves (kept t ws) → NoMoves (cond y (w ∷ kept t ws) (kept t ws))
    go true z = (x.0, z)
    go false z = z

pub moves-none : (ws : Writes) → NoMoves ws → (a : Lane) → is_written ws a ≡ true → settled (filled ws a) ≡ Undef
moves-none [] x a e = absurd (cc)
moves-none (w ∷ ws) x a e = go (same_lane w.lane a) e (moves-none ws x.1 a)
  where
    go : (y : Bool) → (y || is_written ws a) ≡ true → (is_written ws a ≡ true → settled (filled ws a) ≡ Undef) → settled (cond y w.fill (filled ws a)) ≡ Undef
    go true e z = x.0
    go false e z = z e

module _ (t : Target) (f : Function) where
  results-moves : (n : ℕ) (ds : List Definition) → NoMoves (results t f n ds)
  results-moves n [] = tt
  results-moves n (d ∷ ds) =
      let ls = operand_lanes t f d.1 in
      let more = undefined_lanes t f d.1 in
      let rest = results t f (n + length ls) ds in
      append-moves (result_writes t f d.0 n d.1) rest (append-moves (computed d.0 n ls) (undefined d.0 more) (computed-moves d.0 n ls) (undefined-moves d.0 more)) (results-moves (n + length ls) ds)

  both-moves : (n : ℕ) (ls ms : List Lane) → NoMoves (computed false n ls ++ undefined false ms)
  both-moves n ls ms = append-moves (computed false n ls) (undefined false ms) (computed-moves false n ls) (undefined-moves false ms)

  implicit-moves : (e : Effect) (rs : List Role) (os : List Operand) → NoMoves (implicit_writes t f e rs os)
  implicit-moves effects.Cmp rs os =
      let ds = implicit_definitions os in
      let one = all_lanes t f (filter (is_flags rs) ds) in
      kept-moves t (computed false 0 one ++ undefined false (all_lanes t f ds)) (both-moves 0 one (all_lanes t f ds))
  implicit-moves effects.Call rs os = both-moves 0 (answered t f os) (clobbered t os)
  implicit-moves e rs os = undefined-moves false (unreserved t (all_lanes t f (implicit_definitions os)))

  clobbers-moves : (kind : OpaqueKind) (os : List Operand) → NoMoves (opaque_clobbers t kind os)
  clobbers-moves kinds.Call os = undefined-moves false (clobbered t os)
  clobbers-moves kind os = tt

  pub further-moves : (e : Effect) (i : Instr) → NoMoves (further_writes t f e i)
  further-moves (effects.Opaque kind) i =
      let n = length (defined_lanes t f (definitions (roles_of t i) i.operands)) in
      let ls = all_lanes t f (implicit_definitions i.operands) in
      append-moves (computed false n ls) (opaque_clobbers t kind i.operands) (computed-moves false n ls) (clobbers-moves kind i.operands)
  further-moves e i = implicit-moves e (implicit_roles (roles_of t i)) i.operands

  pub counted-moves : (e : Effect) (i : Instr) → NoMoves (counted_writes t f e i)
  counted-moves e i = append-moves (results t f 0 (definitions (roles_of t i) i.operands)) (further_writes t f e i) (results-moves 0 (definitions (roles_of t i) i.operands)) (further-moves e i)

pub known-item : (t : Target) (g : Function) (a : Block) (x : Instr) (e : Effect) → effect_of t x ≡ Some e → item_of t g a x ≡ effect_item t g a x e
unfolding item_of
known-item t g a x e q = ap (λ z. elim z as (λ o. Item) [ None ↦ Silent [] [] | Some y ↦ effect_item t g a x y ]) q
