-- What a matrix answers of clashes, as what is in the way.
use Rattle.std.proofs.Common.{◌≡◌, ◌∙◌, ℕ, Bool, true, false, cond, List, length, refl, sym, ap}
use Rattle.std.specs.Prelude.{◌&&◌, not, filter, Option, Some, None}
use Rattle.std.specs.List.{list_all}
use Rattle.target_base.specs.declared.types.Reg.{Reg}
use Rattle.mir_meaning.specs.Registers.{numbers}
use Rattle.interference.specs.declared.matrix.Matrix.{Matrix}
use Rattle.interference.specs.declared.matrix.Clash.{Clash}
use Rattle.interference.specs.declared.matrix.Clash.TheVariants as clashes
use Rattle.evictor.specs.declared.ranks.Ranks.{Ranks}
use Rattle.evictor.specs.declared.choice.Eviction.{Eviction}
use Rattle.interference.specs.Clashes.{IsOrdered, is_fixed, is_in_way, ranges_of, clash_at}
use Rattle.evictor.specs.Cheapest.{Setting, may_lose, clashers, qualifies}
use Rattle.evictor.specs.Settings.{setting_of, eviction, eviction_at}

is_the_unit : (b : Bool) (ws : List ℕ) → clashes.Fixed ≡ cond b clashes.Fixed (clashes.Ranges ws) → b ≡ true
is_the_unit true ws e = refl
is_the_unit false ws e = cc

are_the_ranges : (b : Bool) (vs ws : List ℕ) → clashes.Ranges vs ≡ cond b clashes.Fixed (clashes.Ranges ws) → (b ≡ false) × (vs ≡ ws)
are_the_ranges true vs ws e = cc
are_the_ranges false vs ws e = (refl, cc)

pub not_taken : (s : Setting) (r : Reg) → qualifies s r ≡ false → None ≡ eviction_at s r
not_taken s r fails = sym (ap (λ (b : Bool). cond {A = Option Eviction} b (Some (eviction s r)) None) fails)

pub fixed_not : (s : Setting) (r : Reg) → s.facts.fixed r ≡ true → qualifies s r ≡ false
fixed_not s r e = ap (λ b. not b && list_all (may_lose s) (clashers s r)) e

pub is_fixed_there : (m : Matrix) (v : ℕ) (r : Reg) (c : Clash) → c ≡ clash_at m v r → c ≡ clashes.Fixed → is_fixed m v r ≡ true
is_fixed_there m v r c answered is = is_the_unit (is_fixed m v r) (filter (is_in_way m v r) (ranges_of m)) (sym is ∙ answered)

pub are_in_way : (m : Matrix) (freqs : List ℕ) (k : Ranks) (v : ℕ) (r : Reg) (c : Clash) (vs : List ℕ) → IsOrdered m → c ≡ clash_at m v r → c ≡ clashes.Ranges vs → (is_fixed m v r ≡ false) × (vs ≡ clashers (setting_of m freqs k v) r)
are_in_way m freqs k v r c vs ordered answered is =
    let both = are_the_ranges (is_fixed m v r) vs (filter (is_in_way m v r) (ranges_of m)) (sym is ∙ answered) in
    (both.0, both.1 ∙ ap (λ (n : ℕ). filter (is_in_way m v r) (numbers 0 n)) ordered.registers)
