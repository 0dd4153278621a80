-- Blocks and instructions of the physical form, and what they were.
use Rattle.std.proofs.Common.{◌≡◌, ◌∷◌, ◌∙◌, ◌+◌, not, ℕ, zero, suc, Bool, true, List, [], Option, Some, None, map, length, refl, sym, ap, subst, arith}
use Rattle.std.specs.Prelude.{option_map, slice_get}
use Rattle.target_base.specs.declared.types.ClassId.{ClassId}
use Rattle.target_base.specs.declared.types.Reg.{Reg}
use Rattle.target_base.specs.declared.types.Target.{Target}
use Rattle.meaning.specs.Live.{Among as Member, here as first, there as later}
use Rattle.mir_func.specs.declared.func.Block.{Block}
use Rattle.mir_func.specs.declared.func.Instr.{Instr}
use Rattle.mir_func.specs.Value.{Function}
use Rattle.mir_meaning.specs.Registers.{numbers}
use Rattle.mir_meaning.specs.Valid.{cover}
use Rattle.instr_effects.proofs.Members.{filter-of, map-of, member-elim, member-none}
use Rattle.live_laws.proofs.Effects.Blocks.{member-slice, slice-map, slice-member}
use Rattle.live_laws.proofs.Effects.Moving.{some-same}
use Rattle.phi_elim.specs.Numbered.{blocks_numbered, numbered}
use Rattle.rewriter.specs.Physical.{Assignment, is_identity, physical_block, physical_form, physical_instr, physical_instrs, physical_liveins, with_liveins}
use Rattle.rewrite_laws.proofs.Blocks.{Follows}

some-of : {X Y : Type 0} (g : X → Y) (o : Option X) (y : Y) → option_map g o ≡ Some y → (x : X) × (o ≡ Some x) × (y ≡ g x)
some-of g None y e = absurd (cc)
some-of g (Some x) y e = (x, refl, sym (some-same (g x) y e))

-- lists by their places

there-of : (ls : List (List Reg)) (bs : List Block) (k : ℕ) (c : Block) → slice_get (with_liveins ls bs) k ≡ Some c → (b : Block) × (slice_get bs k ≡ Some b)
there-of [] bs k c e = (c, e)
there-of (r ∷ ls) [] k c e = absurd (cc)
there-of (r ∷ ls) (b ∷ bs) zero c e = (b, refl)
there-of (r ∷ ls) (b ∷ bs) (suc k) c e = there-of ls bs k c e

listed-at : (ls : List (List Reg)) (bs : List Block) (k : ℕ) (l : List Reg) → slice_get ls k ≡ Some l → slice_get (with_liveins ls bs) k ≡ option_map (λ (b : Block). record b { liveins = l }) (slice_get bs k)
listed-at [] bs k l e = absurd (cc)
listed-at (r ∷ ls) [] zero l e = refl
listed-at (r ∷ ls) [] (suc k) l e = refl
listed-at (r ∷ ls) (b ∷ bs) zero l e = λ i. Some (record b { liveins = some-same r l e i })
listed-at (r ∷ ls) (b ∷ bs) (suc k) l e = listed-at ls bs k l e

numbered-at : (n : ℕ) (bs : List Block) (k : ℕ) → (m : ℕ) × (slice_get (blocks_numbered n bs) k ≡ option_map (λ (b : Block). record b { instrs = numbered m b.instrs }) (slice_get bs k))
numbered-at n [] zero = (n, refl)
numbered-at n [] (suc k) = (n, refl)
numbered-at n (b ∷ bs) zero = (n, refl)
numbered-at n (b ∷ bs) (suc k) = numbered-at (n + length b.instrs) bs k

number-at : {X : Type 0} (n : ℕ) (xs : List X) (k : ℕ) (x : X) → slice_get xs k ≡ Some x → slice_get (numbers n (length xs)) k ≡ Some (n + k)
number-at n [] k x e = absurd (cc)
number-at n (y ∷ xs) zero x e = let z : n ≡ n + 0 = omega arith in ap Some z
number-at n (y ∷ xs) (suc k) x e = let z : suc n + k ≡ n + suc k = omega arith in number-at (suc n) xs k x e ∙ ap Some z

-- the live-ins of the block at a position
abbrev pub liveins_at : Target → (ℕ → ℕ → Bool) → ℕ → Block → List Reg
liveins_at t live zero b = b.liveins
liveins_at t live (suc k) b = cover t (live (suc k))

liveins-are : (t : Target) (live : ℕ → ℕ → Bool) (bs : List Block) (k : ℕ) (b : Block) → slice_get bs k ≡ Some b → slice_get (physical_liveins t live bs) k ≡ Some (liveins_at t live k b)
liveins-are t live [] k b e = absurd (cc)
liveins-are t live (d ∷ bs) zero b e = ap (λ (x : Block). Some x.liveins) (some-same d b e)
liveins-are t live (d ∷ bs) (suc k) b e =
    let next : 1 + k ≡ suc k = omega arith in
    slice-map (λ p. cover t (live p)) (numbers 1 (length bs)) k ∙ (ap (option_map (λ p. cover t (live p))) (number-at 1 bs k b e) ∙ ap (λ p. Some (cover t (live p))) next)

-- c is b in physical form, at that position
pub record IsForm (t : Target) (rs : Assignment) (live : ℕ → ℕ → Bool) (k : ℕ) (b c : Block) : Type 0 where
  pub follows : Follows t rs b c
  pub attributes : c.attributes ≡ b.attributes
  pub liveins : c.liveins ≡ liveins_at t live k b

-- an instruction that stays, in physical form
pub record IsMade (t : Target) (f : Function) (rs : Assignment) (b : Block) (x : Instr) : Type 0 where
  pub instr : Instr
  pub inside : Member instr b.instrs
  pub id : ℕ
  pub stays : not (is_identity t (physical_instr t rs instr)) ≡ true
  pub is : x ≡ record (physical_instr t rs instr) { id = id }

numbered-of : (n : ℕ) (is : List Instr) (x : Instr) → Member x (numbered n is) → (i : Instr) × (m : ℕ) × Member i is × (x ≡ record i { id = m })
numbered-of n [] x m = absurd (member-none x m)
numbered-of n (i ∷ is) x m = member-elim x (record i { id = n }) (numbered (n + 1) is) (λ e. (i, n, first, e)) (λ k. let z = numbered-of (n + 1) is x k in (z.0, z.1, later z.2, z.3)) m

module _ (t : Target) (rs : Assignment) where
  pub made-of : (f : Function) (b c : Block) (x : Instr) → Follows t rs b c → Member x c.instrs → IsMade t f rs b x
  made-of f b c x h m =
      let z = numbered-of h.id (physical_instrs t rs b.instrs) x (subst (Member x) h.instrs m) in
      let y = filter-of (λ i. not (is_identity t i)) z.0 (map (physical_instr t rs) b.instrs) z.2 in
      let w = map-of (physical_instr t rs) z.0 b.instrs y.0 in
      record { instr = w.0; inside = w.1; id = z.1; stays = subst (λ i. not (is_identity t i) ≡ true) w.2 y.1; is = z.3 ∙ ap (λ (i : Instr). record i { id = z.1 }) w.2 }

  module _ (slots : List (ℕ × ClassId)) (live : ℕ → ℕ → Bool) (f : Function) where
    abbrev g : Function
    g = physical_form t rs slots live f

    abbrev made : List Block
    made = blocks_numbered 0 (map (physical_block t rs) f.blocks)

    same-liveins : (k : ℕ) (d b : Block) → d.liveins ≡ b.liveins → liveins_at t live k d ≡ liveins_at t live k b
    same-liveins zero d b e = e
    same-liveins (suc k) d b e = refl

    is-form : (k m : ℕ) (b d c : Block) → d ≡ record b { instrs = numbered m (physical_instrs t rs b.instrs) } → c ≡ record d { liveins = liveins_at t live k d } → IsForm t rs live k b c
    is-form k m b d c mid is = record {
      follows = record {
        number = ap (λ (x : Block). x.number) is ∙ ap (λ (x : Block). x.number) mid;
        successors = ap (λ (x : Block). x.successors) is ∙ ap (λ (x : Block). x.successors) mid;
        id = m;
        instrs = ap (λ (x : Block). x.instrs) is ∙ ap (λ (x : Block). x.instrs) mid;
      };
      attributes = ap (λ (x : Block). x.attributes) is ∙ ap (λ (x : Block). x.attributes) mid;
      liveins = ap (λ (x : Block). x.liveins) is ∙ same-liveins k d b (ap (λ (x : Block). x.liveins) mid);
    }

    -- the block at a position
    pub form-at : (k : ℕ) (c : Block) → slice_get g.blocks k ≡ Some c → (b : Block) × (slice_get f.blocks k ≡ Some b) × IsForm t rs live k b c
    form-at k c e =
        let there = there-of (physical_liveins t live made) made k c e in
        let was = numbered-at 0 (map (physical_block t rs) f.blocks) k in
        let d = some-of (λ (b : Block). record b { instrs = numbered was.0 b.instrs }) (slice_get (map (physical_block t rs) f.blocks) k) there.0 (sym was.1 ∙ there.1) in
        let b = some-of (physical_block t rs) (slice_get f.blocks k) d.0 (sym (slice-map (physical_block t rs) f.blocks k) ∙ d.1) in
        let ls : List Reg = liveins_at t live k there.0 in
        let whole = listed-at (physical_liveins t live made) made k ls (liveins-are t live made k there.0 there.1) ∙ ap (option_map (λ (x : Block). record x { liveins = ls })) there.1 in
        (b.0, b.1, is-form k was.0 b.0 there.0 c (d.2 ∙ ap (λ (x : Block). record x { instrs = numbered was.0 x.instrs }) b.2) (some-same c (record there.0 { liveins = ls }) (sym e ∙ whole)))

    -- an instruction of it, and the block and the instruction that it was
    pub instr-of : (c : Block) (x : Instr) → Member c g.blocks → Member x c.instrs → (b : Block) × Member b f.blocks × IsMade t f rs b x
    instr-of c x mc mx =
        let k = member-slice c g.blocks mc in
        let z = form-at k.0 c k.1 in
        (z.0, slice-member f.blocks k.0 z.0 z.1, made-of f z.0 c x z.2.follows mx)
