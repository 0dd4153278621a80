-- The code of a computed table is the function over numbered lanes.
use Rattle.std.proofs.Common.{◌≡◌, ◌+◌, ℕ, zero, suc, Bool, true, false, cond, List, [], ◌∷◌, ◌++◌, Option, Some, None, map, refl, sym, ap, ◌∙◌, subst, arith, append_assoc, eqb-true, eq-eqb}
use mathlib.Core.Path.{fun_ext}
use Rattle.std.specs.Prelude.{nat_eq, slice_get, option_map, flat_map, filter_map}
use Rattle.target_base.specs.declared.types.Target.{Target}
use Rattle.meaning.specs.Live.{Among as Member}
use Rattle.mir_func.specs.declared.func.RegOp.{RegOp}
use Rattle.mir_func.specs.declared.func.Instr.{Instr}
use Rattle.mir_func.specs.declared.func.Block.{Block}
use Rattle.mir_func.specs.Value.{Function}
use Rattle.instr_effects.specs.Acts.{use_owners}
use Rattle.instr_effects.specs.Ends.{end_uses}
use Rattle.instr_effects.specs.Steps.{Numbering, phi_read_of}
use Rattle.instr_effects.proofs.Members.{map-in}
use Rattle.live_laws.specs.Effects.Coded as coded
use Rattle.live_laws.specs.Effects.Coded.{all_end_uses, read_at, last_reads, exits_from, instr_step, body_of, numbered_code, KeepsRules}
use Rattle.mir_meaning.specs.Rules.{block_numbers}
use Rattle.live_laws.proofs.Effects.Moved.{Apart}
use Rattle.live_laws.proofs.Effects.Blocks.{numbers-apart, place-block, slice-member}
use Rattle.live_lanes.specs.Ordered.{place_of}
use Rattle.live_lanes.specs.Flowing.{edge_places}
use Rattle.live_lanes.specs.Coded.{entries, lanes_at, last_at, body_at, bodies_from}
use Rattle.live_lanes.specs.Doing.{doing_of, lane_code}

-- the two words for places of blocks
pub place-same : (n : ℕ) (bs : List Block) → place_of n bs ≡ coded.place_of n bs
place-same n [] = refl
place-same n (b ∷ bs) = ap (λ q. cond {A = Option ℕ} (nat_eq b.number n) (Some 0) (option_map (λ x. suc x) q)) (place-same n bs)

flat-append : {X Y : Type 0} (g : X → List Y) (xs ys : List X) → flat_map g (xs ++ ys) ≡ flat_map g xs ++ flat_map g ys
flat-append g [] ys = refl
flat-append g (x ∷ xs) ys = ap (λ zs. g x ++ zs) (flat-append g xs ys) ∙ sym (append_assoc (g x) (flat_map g xs) (flat_map g ys))

flat-same : {X Y : Type 0} (g h : X → List Y) (xs : List X) → ((x : X) → g x ≡ h x) → flat_map g xs ≡ flat_map h xs
flat-same g h [] e = refl
flat-same g h (x ∷ xs) e = ap (λ zs. zs ++ flat_map g xs) (e x) ∙ ap (λ zs. h x ++ zs) (flat-same g h xs e)

flat-mapped : {X Y Z : Type 0} (g : Y → List Z) (f : X → Y) (xs : List X) → flat_map g (map f xs) ≡ flat_map (λ x. g (f x)) xs
flat-mapped g f [] = refl
flat-mapped g f (x ∷ xs) = ap (λ zs. g (f x) ++ zs) (flat-mapped g f xs)

flat-flat : {X Y Z : Type 0} (g : Y → List Z) (h : X → List Y) (xs : List X) → flat_map g (flat_map h xs) ≡ flat_map (λ x. flat_map g (h x)) xs
flat-flat g h [] = refl
flat-flat g h (x ∷ xs) = flat-append g (h x) (flat_map h xs) ∙ ap (λ zs. flat_map g (h x) ++ zs) (flat-flat g h xs)

-- the lanes, where they are read at the end of the block at a position
abbrev picked : ℕ → List ℕ → Option ℕ → List ℕ
picked n xs q = elim q [ None ↦ [] | Some m ↦ cond (nat_eq m n) xs [] ]

place-first : (bs : List Block) → Apart (block_numbers bs) → (k : ℕ) (c : Block) → slice_get bs k ≡ Some c → place_of c.number bs ≡ Some k
place-first [] apart k c e = absurd (cc)
place-first (b ∷ bs) apart zero c e = let same : b ≡ c = cc in ap (λ q. cond {A = Option ℕ} q (Some 0) (option_map (λ x. suc x) (place_of c.number bs))) (eq-eqb b.number c.number (ap (λ x. x.number) same))
place-first (b ∷ bs) apart (suc k) c e = go (nat_eq b.number c.number) refl (place-first bs apart.1 k c e)
  where
    go : (q : Bool) → nat_eq b.number c.number ≡ q → place_of c.number bs ≡ Some k → cond {A = Option ℕ} q (Some 0) (option_map (λ x. suc x) (place_of c.number bs)) ≡ Some (suc k)
    go true f ih = absurd (apart.0 (subst (λ n. Member n (block_numbers bs)) (sym (eqb-true b.number c.number f)) (map-in (λ x. x.number) c bs (slice-member bs k c e))))
    go false f ih = ap (option_map (λ x. suc x)) ih

module _ (t : Target) (f : Function) (num : Numbering) (rules : KeepsRules t f) where
  abbrev place : ℕ → Option ℕ
  place n = place_of n f.blocks

  some-same : (m n : ℕ) → Some m ≡ Some n → m ≡ n
  some-same m n e = cc

  one-block : (c d : Block) → Some c ≡ Some d → c ≡ d
  one-block c d e = cc

  -- the block of a number stands at its place
  pub place-is : (k : ℕ) (c : Block) → slice_get f.blocks k ≡ Some c → place c.number ≡ Some k
  place-is k c e = place-first f.blocks (numbers-apart f rules.blocks) k c e

  abbrev read_lanes : RegOp × ℕ → List ℕ
  read_lanes p = filter_map num (use_owners t f p.0)

  reads-same : (n : ℕ) (c : Block) → slice_get f.blocks n ≡ Some c → (p : RegOp × ℕ) → lanes_at place n (phi_read_of t f num p) ≡ read_at t f num c.number p
  reads-same n c e p = go (nat_eq p.1 c.number) refl
    where
      other : nat_eq p.1 c.number ≡ false → (q : Option ℕ) → place p.1 ≡ q → picked n (read_lanes p) q ≡ []
      other g None h = refl
      other g (Some m) h = by (nat_eq m n) refl
        where
          by : (u : Bool) → nat_eq m n ≡ u → cond u (read_lanes p) [] ≡ []
          by true k =
              let same : m ≡ n = eqb-true m n k in
              let z = place-block p.1 f.blocks m (sym (place-same p.1 f.blocks) ∙ h) in
              let d : z.0 ≡ c = one-block z.0 c (sym z.1 ∙ ap (slice_get f.blocks) same ∙ e) in
              absurd (let w : nat_eq p.1 c.number ≡ true = eq-eqb p.1 c.number (sym z.2 ∙ ap (λ x. x.number) d) in cc)
          by false k = refl

      go : (u : Bool) → nat_eq p.1 c.number ≡ u → picked n (read_lanes p) (place p.1) ≡ cond u (read_lanes p) []
      go true g = ap (λ q. picked n (read_lanes p) q) (ap place (eqb-true p.1 c.number g) ∙ place-is n c e) ∙ ap (λ u. cond u (read_lanes p) []) (eq-eqb n n refl)
      go false g = other g (place p.1) refl

  last-same : (n : ℕ) (c : Block) → slice_get f.blocks n ≡ Some c → last_at place (entries (doing_of t f num) f.blocks) n ≡ last_reads t f num c.number
  last-same n c e =
      flat-mapped (flat_map (λ d. flat_map (lanes_at place n) d.1)) (λ b. map (doing_of t f num) b.instrs) f.blocks
      ∙ flat-same (λ b. flat_map (λ d. flat_map (lanes_at place n) d.1) (map (doing_of t f num) b.instrs)) (λ b. flat_map (read_at t f num c.number) (flat_map (end_uses t) b.instrs)) f.blocks (λ b.
      flat-mapped (λ d. flat_map (lanes_at place n) d.1) (doing_of t f num) b.instrs
      ∙ flat-same (λ i. flat_map (lanes_at place n) (map (phi_read_of t f num) (end_uses t i))) (λ i. flat_map (read_at t f num c.number) (end_uses t i)) b.instrs (λ i. flat-mapped (lanes_at place n) (phi_read_of t f num) (end_uses t i) ∙ flat-same (λ p. lanes_at place n (phi_read_of t f num p)) (read_at t f num c.number) (end_uses t i) (reads-same n c e))
      ∙ sym (flat-flat (read_at t f num c.number) (end_uses t) b.instrs))
      ∙ sym (flat-flat (read_at t f num c.number) (λ b. flat_map (end_uses t) b.instrs) f.blocks)

  steps-same : (is : List Instr) → map (λ i. (doing_of t f num i).0) is ≡ map (instr_step t f num) is
  steps-same [] = refl
  steps-same (i ∷ is) = ap (λ ss. instr_step t f num i ∷ ss) (steps-same is)

  exits-same : (c : Block) → edge_places place c.successors ≡ exits_from f.blocks c
  exits-same c = ap (λ g. filter_map (λ e. g e.block) c.successors) (fun_ext (λ n. place-same n f.blocks))

  body-same : (n : ℕ) (c : Block) → slice_get f.blocks n ≡ Some c → body_at (doing_of t f num) place f.blocks n c ≡ body_of t f num c
  body-same n c e =
      ap (λ ss. record { steps = ss; last = last_at place (entries (doing_of t f num) f.blocks) n; exits = edge_places place c.successors }) (steps-same c.instrs)
      ∙ ap (λ ls. record { steps = map (instr_step t f num) c.instrs; last = ls; exits = edge_places place c.successors }) (last-same n c e)
      ∙ ap (λ xs. record { steps = map (instr_step t f num) c.instrs; last = last_reads t f num c.number; exits = xs }) (exits-same c)

  bodies-same : (n : ℕ) (cs : List Block) → ((k : ℕ) (c : Block) → slice_get cs k ≡ Some c → slice_get f.blocks (n + k) ≡ Some c) → bodies_from (doing_of t f num) place f.blocks n cs ≡ map (body_of t f num) cs
  bodies-same n [] inside = refl
  bodies-same n (c ∷ cs) inside =
      let z : n + 0 ≡ n = omega arith in
      ap (λ x. x ∷ bodies_from (doing_of t f num) place f.blocks (suc n) cs) (body-same n c (ap (slice_get f.blocks) (sym z) ∙ inside 0 c refl))
      ∙ ap (λ xs. body_of t f num c ∷ xs) (bodies-same (suc n) cs (λ k d e. let y : suc n + k ≡ n + suc k = omega arith in ap (slice_get f.blocks) y ∙ inside (suc k) d e))

  pub code-same : lane_code t f num ≡ numbered_code t f num
  code-same = bodies-same 0 f.blocks (λ k c e. let z : 0 + k ≡ k = omega arith in ap (slice_get f.blocks) z ∙ e)
