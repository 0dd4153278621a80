-- Behind lowering, and behind a join, no range is left that an instruction names in `undef` uses alone.
use Rattle.std.proofs.Common.{◌≡◌, ℕ, Bool, true, false, cond, not, ◌&&◌, List, [], ◌∷◌, filter, map, refl, sym, ap, ◌∙◌, subst, eqb-true}
use Rattle.std.specs.List.{list_any}
use Rattle.target_base.specs.declared.types.Target.{Target}
use Rattle.target_base.proofs.Tests.{first_of_both, second_of_both}
use Rattle.meaning.specs.Live.{Among as Member}
use Rattle.mir_func.specs.declared.func.Loc.{Loc}
use Rattle.mir_func.specs.declared.func.Loc.TheVariants.{Virtual, Fixed}
use Rattle.mir_func.specs.declared.func.RegOp.{RegOp}
use Rattle.mir_func.specs.declared.func.Operand.{Operand}
use Rattle.mir_func.specs.declared.func.Operand.TheVariants as operands
use Rattle.mir_func.specs.declared.func.Instr.{Instr}
use Rattle.mir_func.specs.declared.func.Block.{Block}
use Rattle.mir_func.specs.Binding.{registers}
use Rattle.mir_meaning.specs.Points.{counts, is_range, touches}
use Rattle.mir_meaning.specs.Renaming.{renamed_instr, renamed_operand}
use Rattle.instr_effects.proofs.Members.{filter-of, flat-in, flat-of, map-in, map-of}
use Rattle.live_laws.proofs.Effects.Lists.{any-in}
use Rattle.live_laws.proofs.Touch.Cells.{any-of}
use Rattle.live_edits.specs.declared.fold.Join.{Join}
use Rattle.live_edits.specs.Folded.{becomes_identity, folded_block, index_within, joined_instr, names_range}
use Rattle.two_address.specs.Lowered.{lowered}
use Rattle.lowering_laws.proofs.NamedLowered.{lowered_touches_named}
use Rattle.join_laws.specs.Laws.{JoinKeepsNamed, LoweredIsNamed}

-- the instruction names no range in `undef` uses alone
abbrev AllTouched : Instr → Type 0
AllTouched i = (w : ℕ) → names_range w i ≡ true → touches w i ≡ true

one-range : (v w : ℕ) (l : Loc) → is_range v l ≡ true → is_range w l ≡ true → v ≡ w
one-range v w (Virtual x) e h = eqb-true v x e ∙ sym (eqb-true w x h)
one-range v w (Fixed r) e h = absurd (cc)

both-true : (a b : Bool) → a ≡ true → b ≡ true → (a && b) ≡ true
both-true a b e h = λ k. e k && h k

-- operands that name range v name range n instead, and count as before
module _ (v n : ℕ) (to : RegOp → RegOp) (at : (o : RegOp) → (to o).loc ≡ Virtual n) (same : (o : RegOp) → counts (to o) ≡ counts o) where
  abbrev renames : RegOp → RegOp
  renames o = cond (is_range v o.loc) (to o) o

  counts-same : (o : RegOp) → counts (renames o) ≡ counts o
  counts-same o = go (is_range v o.loc)
    where
      go : (q : Bool) → counts (cond q (to o) o) ≡ counts o
      go true = same o
      go false = refl

  -- what an operand named before, and that all which named it name the same now
  record Named (w : ℕ) (o : RegOp) : Type 0 where
    before : ℕ
    named : is_range before o.loc ≡ true
    alike : (p : RegOp) → is_range before p.loc ≡ true → is_range w (renames p).loc ≡ true

  named-before : (w : ℕ) (o : RegOp) → is_range w (renames o).loc ≡ true → Named w o
  named-before w o h = go (is_range v o.loc) refl h
    where
      other : is_range w o.loc ≡ true → is_range v o.loc ≡ false → (p : RegOp) → is_range w p.loc ≡ true → (q : Bool) → is_range v p.loc ≡ q → is_range w (cond q (to p) p).loc ≡ true
      other h e p g true k = absurd (let z : true ≡ false = sym h ∙ (ap (λ x. is_range x o.loc) (sym (one-range v w p.loc k g)) ∙ e) in cc)
      other h e p g false k = g

      go : (q : Bool) → is_range v o.loc ≡ q → is_range w (cond q (to o) o).loc ≡ true → Named w o
      go true e h = record { before = v; named = e; alike = λ p g. ap (λ q. is_range w (cond q (to p) p).loc) g ∙ (ap (is_range w) (at p) ∙ (sym (ap (is_range w) (at o)) ∙ h)) }
      go false e h = record { before = w; named = h; alike = λ p g. other h e p g (is_range v p.loc) refl }

  -- an operand that counted and had that name has the same now, and counts
  still-touches : (w : ℕ) (o : RegOp) (c : Named w o) (p : RegOp) → (is_range c.before p.loc && counts p) ≡ true → (is_range w (renames p).loc && counts (renames p)) ≡ true
  still-touches w o c p h =
      both-true (is_range w (renames p).loc) (counts (renames p)) (c.alike p (first_of_both (is_range c.before p.loc) (counts p) h)) (counts-same p ∙ second_of_both (is_range c.before p.loc) (counts p) h)

  registers-renamed : (os : List Operand) → registers (map (renamed_operand renames) os) ≡ map renames (registers os)
  registers-renamed [] = refl
  registers-renamed (operands.Reg o ∷ os) = ap (λ ps. renames o ∷ ps) (registers-renamed os)
  registers-renamed (o ∷ os) = registers-renamed os

  all-touched : (i : Instr) → AllTouched i → AllTouched (renamed_instr renames i)
  all-touched i k w e =
      let rs = registers i.operands in
      let are = registers-renamed i.operands in
      let a = any-of (λ (o : RegOp). is_range w o.loc) (map renames rs) (subst (λ os. list_any (λ (o : RegOp). is_range w o.loc) os ≡ true) are e) in
      let b = map-of renames a.0 rs a.1 in
      let c = named-before w b.0 (subst (λ (o : RegOp). is_range w o.loc ≡ true) b.2 a.2) in
      let d = any-of (λ (o : RegOp). is_range c.before o.loc && counts o) rs (k c.before (any-in (λ (o : RegOp). is_range c.before o.loc) b.0 rs b.1 c.named)) in
      subst (λ os. list_any (λ (o : RegOp). is_range w o.loc && counts o) os ≡ true) (sym are)
      (any-in (λ (o : RegOp). is_range w o.loc && counts o) (renames d.0) (map renames rs) (map-in renames d.0 rs d.1) (still-touches w b.0 c d.0 d.2))

join-touched : (t : Target) (j : Join) (i : Instr) → AllTouched i → AllTouched (joined_instr t j i)
join-touched t j i k = all-touched j.gone j.keep (λ o. record o { loc = Virtual j.keep; index = index_within t j.index o.index }) (λ o. refl) (λ o. refl) i k

pub join_keeps_named : JoinKeepsNamed
join_keeps_named t f j h w i m e =
    let z = flat-of (λ (b : Block). b.instrs) i (map (folded_block t f j) f.blocks) m in
    let b = map-of (folded_block t f j) z.0 f.blocks z.1 in
    let y = map-of (joined_instr t j) i (filter (λ (c : Instr). not (becomes_identity t f j c)) b.0.instrs) (subst (λ (c : Block). Member i c.instrs) b.2 z.2) in
    let there = (filter-of (λ (c : Instr). not (becomes_identity t f j c)) y.0 b.0.instrs y.1).0 in
    subst AllTouched (sym y.2) (join-touched t j y.0 (λ u g. h u y.0 (flat-in (λ (c : Block). c.instrs) y.0 b.0 f.blocks b.1 there) g)) w e

pub lowered_is_named : LoweredIsNamed
lowered_is_named t f valid classes w i m =
    let z = flat-of (λ (b : Block). b.instrs) i (lowered t f).blocks m in
    lowered_touches_named t f valid classes z.0 i z.1 z.2 w
