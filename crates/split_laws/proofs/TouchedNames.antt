-- A split leaves no range that an instruction names in `undef` uses alone.
use Rattle.std.proofs.Common.{◌≡◌, ℕ, Bool, true, false, cond, ◌&&◌, ◌||◌, List, [], ◌∷◌, map, refl, sym, ap, ◌∙◌, subst, eqb-true}
use Rattle.std.specs.Prelude.{nat_eq}
use Rattle.std.specs.List.{list_any}
use Rattle.target_base.proofs.Tests.{first_of_both, second_of_both}
use Rattle.meaning.specs.Live.{Among as Member}
use Rattle.mir_func.specs.declared.func.Loc.{Loc}
use Rattle.mir_func.specs.declared.func.Loc.TheVariants.{Virtual, Fixed}
use Rattle.mir_func.specs.declared.func.RegOp.{RegOp}
use Rattle.mir_func.specs.declared.func.Operand.{Operand}
use Rattle.mir_func.specs.declared.func.Operand.TheVariants as operands
use Rattle.mir_func.specs.declared.func.Instr.{Instr}
use Rattle.mir_func.specs.declared.func.Block.{Block}
use Rattle.mir_func.specs.Value.{Function}
use Rattle.mir_func.specs.Binding.{registers}
use Rattle.mir_meaning.specs.Points.{Point, counts, is_range, touches}
use Rattle.mir_meaning.specs.Renaming.{renamed_instr, renamed_operand}
use Rattle.instr_effects.proofs.Members.{flat-in, flat-of, map-in, map-of}
use Rattle.live_lanes.specs.declared.ask.labels.Mark.{Mark}
use Rattle.live_laws.proofs.Effects.Lists.{any-in}
use Rattle.live_laws.proofs.Touch.Cells.{any-of}
use Rattle.live_edits.specs.Folded.{names_range}
use Rattle.split_kit.specs.Split.{as_part, blocks_split, part, split_by}
use Rattle.split_laws.specs.Turns.{SplitKeepsNamed, TouchesAllNamed}
use Rattle.split_laws.proofs.Instrs.{block-all, copy, split-of}

-- the instruction names no range in `undef` uses alone
abbrev AllTouched : Instr → Type 0
AllTouched i = (w : ℕ) → names_range w i ≡ true → touches w i ≡ true

one-range : (v w : ℕ) (l : Loc) → is_range v l ≡ true → is_range w l ≡ true → v ≡ w
one-range v w (Virtual x) e h = eqb-true v x e ∙ sym (eqb-true w x h)
one-range v w (Fixed r) e h = absurd (cc)

both-true : (a b : Bool) → a ≡ true → b ≡ true → (a && b) ≡ true
both-true a b e h = λ k. e k && h k

-- operands that name range v name range n instead, and count as before
module _ (v n : ℕ) (to : RegOp → RegOp) (at : (o : RegOp) → (to o).loc ≡ Virtual n) (same : (o : RegOp) → counts (to o) ≡ counts o) where
  abbrev renames : RegOp → RegOp
  renames o = cond (is_range v o.loc) (to o) o

  counts-same : (o : RegOp) → counts (renames o) ≡ counts o
  counts-same o = go (is_range v o.loc)
    where
      go : (q : Bool) → counts (cond q (to o) o) ≡ counts o
      go true = same o
      go false = refl

  -- what an operand named before, and that all which named it name the same now
  record Named (w : ℕ) (o : RegOp) : Type 0 where
    before : ℕ
    named : is_range before o.loc ≡ true
    alike : (p : RegOp) → is_range before p.loc ≡ true → is_range w (renames p).loc ≡ true

  named-before : (w : ℕ) (o : RegOp) → is_range w (renames o).loc ≡ true → Named w o
  named-before w o h = go (is_range v o.loc) refl h
    where
      other : is_range w o.loc ≡ true → is_range v o.loc ≡ false → (p : RegOp) → is_range w p.loc ≡ true → (q : Bool) → is_range v p.loc ≡ q → is_range w (cond q (to p) p).loc ≡ true
      other h e p g true k = absurd (let z : true ≡ false = sym h ∙ (ap (λ x. is_range x o.loc) (sym (one-range v w p.loc k g)) ∙ e) in cc)
      other h e p g false k = g

      go : (q : Bool) → is_range v o.loc ≡ q → is_range w (cond q (to o) o).loc ≡ true → Named w o
      go true e h = record { before = v; named = e; alike = λ p g. ap (λ q. is_range w (cond q (to p) p).loc) g ∙ (ap (is_range w) (at p) ∙ (sym (ap (is_range w) (at o)) ∙ h)) }
      go false e h = record { before = w; named = h; alike = λ p g. other h e p g (is_range v p.loc) refl }

  -- an operand that counted and had that name has the same now, and counts
  still-touches : (w : ℕ) (o : RegOp) (c : Named w o) (p : RegOp) → (is_range c.before p.loc && counts p) ≡ true → (is_range w (renames p).loc && counts (renames p)) ≡ true
  still-touches w o c p h =
      both-true (is_range w (renames p).loc) (counts (renames p)) (c.alike p (first_of_both (is_range c.before p.loc) (counts p) h)) (counts-same p ∙ second_of_both (is_range c.before p.loc) (counts p) h)

  registers-renamed : (os : List Operand) → registers (map (renamed_operand renames) os) ≡ map renames (registers os)
  registers-renamed [] = refl
  registers-renamed (operands.Reg o ∷ os) = ap (λ ps. renames o ∷ ps) (registers-renamed os)
  registers-renamed (o ∷ os) = registers-renamed os

  all-touched : (i : Instr) → AllTouched i → AllTouched (renamed_instr renames i)
  all-touched i k w e =
      let rs = registers i.operands in
      let are = registers-renamed i.operands in
      let a = any-of (λ (o : RegOp). is_range w o.loc) (map renames rs) (subst (λ os. list_any (λ (o : RegOp). is_range w o.loc) os ≡ true) are e) in
      let b = map-of renames a.0 rs a.1 in
      let c = named-before w b.0 (subst (λ (o : RegOp). is_range w o.loc ≡ true) b.2 a.2) in
      let d = any-of (λ (o : RegOp). is_range c.before o.loc && counts o) rs (k c.before (any-in (λ (o : RegOp). is_range c.before o.loc) b.0 rs b.1 c.named)) in
      subst (λ os. list_any (λ (o : RegOp). is_range w o.loc && counts o) os ≡ true) (sym are)
      (any-in (λ (o : RegOp). is_range w o.loc && counts o) (renames d.0) (map renames rs) (map-in renames d.0 rs d.1) (still-touches w b.0 c d.0 d.2))

-- both sides of a copy count
copy-touched : (live : Point → Bool) (f : Function) (v : ℕ) (ms : List Mark) (id from to : ℕ) → AllTouched (copy live f v ms id from to)
copy-touched live f v ms id from to w e = go (nat_eq w (part f to)) (nat_eq w (part f from)) e
  where
    go : (a b : Bool) → (a || (b || false)) ≡ true → ((a && true) || ((b && true) || false)) ≡ true
    go true b h = refl
    go false true h = refl
    go false false h = h

part-touched : (f : Function) (v label : ℕ) (i : Instr) → AllTouched i → AllTouched (renamed_instr (as_part f v label) i)
part-touched f v label i k = all-touched v (part f label) (λ o. record o { loc = Virtual (part f label) }) (λ o. refl) (λ o. refl) i k

split-touched : (live : Point → Bool) (f : Function) (v : ℕ) (ms : List Mark) → TouchesAllNamed f → TouchesAllNamed (split_by live f v ms)
unfolding split_by
split-touched live f v ms h w i m e =
    let z = flat-of (λ (b : Block). b.instrs) i (blocks_split live f v ms f.next_id f.blocks) m in
    let y = split-of live f v ms f.next_id f.blocks z.0 z.1 in
    block-all live f v ms AllTouched (λ id from to p a b c. copy-touched live f v ms id from to) y.1
    (λ j k label fits. part-touched f v label j (λ u g. h u j (flat-in (λ (b : Block). b.instrs) j y.1 f.blocks y.2 k) g))
    y.0 i (subst (λ (c : Block). Member i c.instrs) y.3 z.2) w e

pub split_keeps_named : SplitKeepsNamed
split_keeps_named t f g v ms h s = subst TouchesAllNamed (sym s.2) (split-touched s.0 f v ms h)
