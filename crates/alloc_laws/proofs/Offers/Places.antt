-- In a computed table places are found.
use Rattle.std.proofs.Common.{◌≡◌, ℕ, zero, suc, Bool, true, false, cond, not, ◌||◌, List, [], ◌∷◌, Option, Some, take, refl, sym, ap, subst, eqb-true, eq-eqb}
use Rattle.std.specs.Prelude.{nat_eq, slice_get, option_map}
use Rattle.std.specs.List.{list_all, list_any}
use Rattle.std.proofs.lemmas.Bool.{and_from}
use Rattle.target_base.specs.declared.types.Target.{Target}
use Rattle.meaning.specs.Live.{Among as Member}
use Rattle.mir_func.specs.declared.func.Block.{Block}
use Rattle.mir_func.specs.declared.func.Instr.{Instr}
use Rattle.mir_func.specs.Binding.{does, is_terminator}
use Rattle.mir_meaning.specs.Rules.{V8, block_numbers}
use Rattle.instr_effects.proofs.Members.{map-in}
use Rattle.live_laws.proofs.Effects.Moved.{Apart}
use Rattle.live_laws.proofs.Effects.Blocks.{numbers-apart, slice-member}
use Rattle.live_laws.proofs.Effects.Moving.{some-same}
use Rattle.live_lanes.specs.Ordered.{place_of}
use Rattle.live_laws.proofs.Exact.Inside.{inside-law}
use Rattle.live_laws.proofs.Touch.Touched.{touched-law}
use Rattle.split_choose.specs.Bundles.{ArePlaced}
use Rattle.split_choose.specs.Seen.{ends_in_terminators}
use Rattle.alloc_laws.specs.Offers.{PlacesFoundLaw}

pub all-there : {X : Type 0} (p : X → Bool) (xs : List X) → ((k : ℕ) (x : X) → slice_get xs k ≡ Some x → p x ≡ true) → list_all p xs ≡ true
all-there p [] h = refl
all-there p (x ∷ xs) h = and_from (p x) (list_all p xs) (h 0 x refl) (all-there p xs (λ k y e. h (suc k) y e))

-- the first block of a number is the only one
pub placed-first : (bs : List Block) → Apart (block_numbers bs) → ArePlaced bs
placed-first [] apart k c e = absurd (cc)
placed-first (b ∷ bs) apart zero c e = let same = some-same b c e in ap (λ q. cond {A = Option ℕ} q (Some 0) (option_map (λ x. suc x) (place_of c.number bs))) (eq-eqb b.number c.number (ap (λ x. x.number) same))
placed-first (b ∷ bs) apart (suc k) c e = go (nat_eq b.number c.number) refl (placed-first bs apart.1 k c e)
  where
    go : (q : Bool) → nat_eq b.number c.number ≡ q → place_of c.number bs ≡ Some k → cond {A = Option ℕ} q (Some 0) (option_map (λ x. suc x) (place_of c.number bs)) ≡ Some (suc k)
    go true f ih = absurd (apart.0 (subst (λ n. Member n (block_numbers bs)) (sym (eqb-true b.number c.number f)) (map-in (λ x. x.number) c bs (slice-member bs k c e))))
    go false f ih = ap (option_map (λ x. suc x)) ih

-- behind an instruction that passes the test all pass it
abbrev IsLast : (Instr → Bool) → List Instr → Type 0
IsLast p is = (j : ℕ) (i : Instr) → slice_get is j ≡ Some i → (p i || not (list_any p (take j is))) ≡ true

past-one : (a b : Bool) → (a || not (true || b)) ≡ true → a ≡ true
past-one true b e = refl
past-one false b e = absurd (cc)

ends-so : (t : Target) (is : List Instr) → IsLast (does is_terminator t) is → ends_in_terminators t is ≡ true
ends-so t [] h = refl
ends-so t (i ∷ is) h = go (does is_terminator t i) refl (λ j y e. h (suc j) y e) (ends-so t is)
  where
    go : (b : Bool) → does is_terminator t i ≡ b → ((j : ℕ) (y : Instr) → slice_get is j ≡ Some y → (does is_terminator t y || not (does is_terminator t i || list_any (does is_terminator t) (take j is))) ≡ true) → (IsLast (does is_terminator t) is → ends_in_terminators t is ≡ true) → cond b (list_all (does is_terminator t) is) (ends_in_terminators t is) ≡ true
    go true f g ih = all-there (does is_terminator t) is (λ j y e. past-one (does is_terminator t y) (list_any (does is_terminator t) (take j is)) (subst (λ b. (does is_terminator t y || not (b || list_any (does is_terminator t) (take j is))) ≡ true) f (g j y e)))
    go false f g ih = ih (λ j y e. subst (λ b. (does is_terminator t y || not (b || list_any (does is_terminator t) (take j is))) ≡ true) f (g j y e))

last-so : (t : Target) (b : Block) → ((j : ℕ) (i : Instr) → slice_get b.instrs j ≡ Some i → V8 t b j i ≡ true) → IsLast (does is_terminator t) b.instrs
unfolding V8
last-so t b h j i e = h j i e

pub places-found : PlacesFoundLaw
places-found t f x computed rules last plain known few v =
    let told = touched-law t f x computed rules last plain known in
    record {
      order = (inside-law t f x computed rules last).ordered;
      instrs = told.finds;
      touched = told.touched v;
      placed = placed-first f.blocks (numbers-apart f rules.blocks);
      ended = all-there (λ b. ends_in_terminators t b.instrs) f.blocks (λ k b e. ends-so t b.instrs (last-so t b (λ j i g. last b j i (slice-member f.blocks k b e) g)));
      few = few;
    }
