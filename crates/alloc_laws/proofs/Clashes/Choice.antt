-- The eviction that is chosen by an exact matrix is the cheapest one.
use Rattle.std.proofs.Common.{◌≡◌, ℕ, Bool, true, false, cond, not, ◌&&◌, List, [], ◌∷◌, Option, None, Some, refl, sym, ap, ◌∙◌, subst}
use Rattle.std.specs.Prelude.{nat_le, filter, filter_map, find, option_map}
use Rattle.std.specs.List.{list_all, zip}
use Rattle.target_base.specs.declared.types.ClassId.{ClassId}
use Rattle.target_base.specs.declared.types.Reg.{Reg}
use Rattle.target_base.specs.declared.types.Target.{Target}
use Rattle.target_base.specs.Registers.{regs_of}
use Rattle.target_base.specs.Rules.{is_copy, regs_of_some}
use Rattle.target_base.specs.Storage.{holds_reg, is_unreserved}
use Rattle.meaning.specs.Live.{Among as Member, here as first, there as later}
use Rattle.mir_func.specs.declared.func.Instr.{Instr}
use Rattle.mir_func.specs.declared.func.Loc.{Loc}
use Rattle.mir_func.specs.Value.{Function}
use Rattle.mir_func.specs.Binding.{does, class_of}
use Rattle.mir_meaning.specs.Places.{domain}
use Rattle.instr_effects.proofs.Members.{member-none, member-elim, flat-of, map-of, filter-of}
use Rattle.live_laws.proofs.Effects.Blocks.{filtered-of}
use Rattle.live_lanes.proofs.Cells.{both-left}
use Rattle.evictor.specs.Candidates.{Assignment, register_of, other_side, if_among, hinted, block_hints, all_hints, most_frequent, with_first, candidates}
use Rattle.evictor.specs.Cheapest.{Setting, clashers, may_lose, qualifies, first_cheapest, cheapest_of}
use Rattle.evictor.specs.Hints.{assignment_of}
use Rattle.evictor.specs.Settings.{setting_of, facts_of}
use Rattle.evictor.proofs.Domains.{domain_holds}
use Rattle.alloc_laws.specs.Clashes.Facts.{EvictionLaw, BasicLaw}
use Rattle.alloc_laws.proofs.Clashes.Facts.{is_exact, unreserved-same, told_facts, are-facts, facts-law}

found-in : {X : Type 0} (p : X → Bool) (xs : List X) (y : X) → find p xs ≡ Some y → Member y xs
found-in p [] y e = absurd (cc)
found-in p (x ∷ xs) y e = go (p x) e (found-in p xs y)
  where
    go : (u : Bool) → cond u (Some x) (find p xs) ≡ Some y → (find p xs ≡ Some y → Member y xs) → Member y (x ∷ xs)
    go true g ih = let same : x ≡ y = cc in subst (λ z. Member z (x ∷ xs)) same first
    go false g ih = later (ih g)

filters-agree : {X : Type 0} (p q : X → Bool) (xs : List X) → ((y : X) → Member y xs → p y ≡ q y) → filter p xs ≡ filter q xs
filters-agree p q [] h = refl
filters-agree p q (x ∷ xs) h = ap (λ b. cond b (x ∷ filter p xs) (filter p xs)) (h x first) ∙ ap (λ ys. cond (q x) (x ∷ ys) ys) (filters-agree p q xs (λ y m. h y (later m)))

-- candidates are unreserved registers

module _ (t : Target) (f : Function) (a : Assignment) (freqs : List ℕ) (v : ℕ) where
  abbrev Unreserved : Reg → Type 0
  Unreserved r = is_unreserved t.reserved t.regs r ≡ true

  of-domain : (c : Option ClassId) (r : Reg) → Member r (domain t c) → Unreserved r
  of-domain None r m = absurd (member-none r m)
  of-domain (Some c) r m = (filter-of (is_unreserved t.reserved t.regs) r (regs_of t c) m).1

  of-if-among : (q : Option Reg) (r : Reg) → if_among (domain t (class_of f v)) q ≡ Some r → Unreserved r
  of-if-among None r e = absurd (cc)
  of-if-among (Some q) r e = go (holds_reg (domain t (class_of f v)) q) refl e
    where
      go : (u : Bool) → holds_reg (domain t (class_of f v)) q ≡ u → cond {A = Option Reg} u (Some q) None ≡ Some r → Unreserved r
      go true g h =
          let same : q ≡ r = cc in
          subst Unreserved same (both-left (is_unreserved t.reserved t.regs q) (holds_reg (regs_of_some t.classes (class_of f v)) q) (sym (domain_holds t (class_of f v) q) ∙ g))
      go false g h = absurd (cc)

  of-hinted : (i : Instr) (r : Reg) → hinted t f a v i ≡ Some r → Unreserved r
  of-hinted i r e = go (does is_copy t i) (other_side v i.operands) e
    where
      side : (q : Option Loc) → elim q [ None ↦ None | Some l ↦ if_among (domain t (class_of f v)) (register_of a l) ] ≡ Some r → Unreserved r
      side None h = absurd (cc)
      side (Some l) h = of-if-among (register_of a l) r h

      go : (u : Bool) (q : Option Loc) → cond {A = Option Reg} u (elim q [ None ↦ None | Some l ↦ if_among (domain t (class_of f v)) (register_of a l) ]) None ≡ Some r → Unreserved r
      go true q h = side q h
      go false q h = absurd (cc)

  of-hint : (h : ℕ × Reg) → Member h (all_hints t f a freqs v) → Unreserved h.1
  of-hint h m =
      let b = flat-of (block_hints t f a v) h (zip freqs f.blocks) m in
      let r = map-of (λ (r : Reg). (b.0.0, r)) h (filter_map (hinted t f a v) b.0.1.instrs) b.2 in
      let i = filtered-of (hinted t f a v) r.0 b.0.1.instrs r.1 in
      subst Unreserved (sym (ap (λ (p : ℕ × Reg). p.1) r.2)) (of-hinted i.0 r.0 i.2)

  of-first : (q : Option (ℕ × Reg)) → ((h : ℕ × Reg) → q ≡ Some h → Unreserved h.1) → (r : Reg) → Member r (with_first (option_map (λ (h : ℕ × Reg). h.1) q) (domain t (class_of f v))) → Unreserved r
  of-first None g r m = of-domain (class_of f v) r m
  of-first (Some h) g r m =
      member-elim r h.1 (filter (λ q. not (holds_reg (h.1 ∷ []) q)) (domain t (class_of f v)))
      (λ e. subst Unreserved (sym e) (g h refl))
      (λ j. of-domain (class_of f v) r (filter-of (λ q. not (holds_reg (h.1 ∷ []) q)) r (domain t (class_of f v)) j).0) m

  pub of-candidates : (r : Reg) → Member r (candidates t f a freqs v) → Unreserved r
  of-candidates r m = of-first (most_frequent (all_hints t f a freqs v)) (λ h e. of-hint h (found-in (λ g. list_all (λ k. nat_le k.0 g.0) (all_hints t f a freqs v)) (all_hints t f a freqs v) h e)) r m

-- registers that are told of alike are chosen among alike
same-choice : (s : Setting) (fixed : Reg → Bool) (rs : List Reg) → ((r : Reg) → Member r rs → s.facts.fixed r ≡ fixed r) → cheapest_of s rs ≡ cheapest_of (record s { facts = record s.facts { fixed = fixed } }) rs
unfolding cheapest_of
same-choice s fixed rs h =
    ap (λ qs. option_map (λ r. (r, clashers s r)) (first_cheapest s qs))
    (filters-agree (qualifies s) (qualifies (record s { facts = record s.facts { fixed = fixed } })) rs (λ r m. ap (λ b. not b && list_all (may_lose s) (clashers s r)) (h r m)))

pub eviction-law : EvictionLaw
eviction-law m exact v none freqs k answer e =
    let rs = candidates m.live.target m.live.func (assignment_of m) freqs v in
    record {
      facts = told_facts m exact v none;
      are_facts = are-facts m exact v none;
      answered = e ∙ same-choice (setting_of m freqs k v) (is_exact m exact.computed exact.rules exact.last v) rs (λ r j. unreserved-same m exact.computed exact.rules exact.last v r (of-candidates m.live.target m.live.func (assignment_of m) freqs v r j));
    }

pub basic-law : BasicLaw
basic-law m exact v none freqs tinies choice e = record { facts = facts_of m v; are_facts = facts-law m exact v none; chosen = e }
