-- Edits lead from one state of a function to another: each has its place, and none changes what is erased.
use Rattle.std.proofs.Common.{◌≡◌, ◌≢◌, ◌∷◌, ◌++◌, ◌∙◌, ◌+◌, ◌<◌, ℕ, Bool, true, false, cond, List, [], Some, refl, sym, ap, subst, arith, eq-eqb, eqb-true}
use Rattle.std.specs.Prelude.{nat_eq}
use Rattle.std.proofs.lemmas.Option.{same_Some}
use Rattle.target_base.specs.declared.types.OpId.{OpId}
use Rattle.target_base.specs.declared.types.Target.{Target}
use Rattle.mir_func.specs.declared.func.Block.{Block}
use Rattle.mir_func.specs.declared.func.Instr.{Instr}
use Rattle.mir_func.specs.declared.func.Operand.{Operand}
use Rattle.mir_func.specs.Value.{Function, id_count, id_total}
use Rattle.mir_func.specs.Edits.{deleted, inserted, made}
use Rattle.mir_meaning.specs.Paths.{has}
use Rattle.mir_meaning.specs.Registers.{has_number}
use Rattle.mir_meaning.specs.Rules.{block_numbers}
use Rattle.edit_laws.specs.Deferred.{SpareGone, Spares, deferred, gone_after}
use Rattle.edit_laws.specs.Edits.{Edit, Put, Replace, Erase, IsPlain, KeepsWays, Stands, StaysPlain, all_edited, edited, replaced, with_op}
use Rattle.live_edits.specs.Drafts.{HasGap}
use Rattle.live_edits.specs.Folded.{all_instrs}
use Rattle.live_edits.specs.Runs.{HasPlace, HavePlaces}
use Rattle.live_edits.proofs.JoiningEdits.{count-step, single-of}
use Rattle.live_edits.proofs.JoiningLaw.{all-apart}
use Rattle.live_edits.proofs.JoiningMembers.{instr-member}
use Rattle.live_edits.proofs.JoiningPlaces.{same-instr}
use Rattle.spiller.specs.WholePlan.{first_id, gap_at}
use Rattle.spiller.proofs.ListSeats.{among-seat}
use Rattle.spiller.proofs.EditSteps.{Single, alone, at, cut-function, deleted-there, has-gap, one_if, passed-there, put-function, put-there, replaced-single, replaced-there}

-- ids that are erased, the function in which these instructions still stand, and that in which they don't
abbrev pub Holds : Type 1
Holds = List ℕ → Function → Function → Type 0

-- the edits may be done one after the other, and then this holds
abbrev pub After : Target → Holds → List Edit → Holds
After t P [] ds d f = P ds d f
After t P (e ∷ es) ds d f = HasPlace d e × KeepsWays t d e × ((id : ℕ) → has id ds ≡ true → Spares d e id) × After t P es (gone_after ds e) (deferred d e) (edited f e)

-- the edits lead from one state to another
abbrev pub Leads : Target → List Edit → Holds → Holds → Type 0
Leads t es P Q = (ds : List ℕ) (d f : Function) → P ds d f → After t Q es ds d f

after-then : (t : Target) (P Q : Holds) (es fs : List Edit) (ds : List ℕ) (d f : Function) → After t P es ds d f → Leads t fs P Q → After t Q (es ++ fs) ds d f
after-then t P Q [] fs ds d f h k = k ds d f h
after-then t P Q (e ∷ es) fs ds d f h k = (h.0, h.1, h.2, after-then t P Q es fs (gone_after ds e) (deferred d e) (edited f e) h.3 k)

pub leads-then : (t : Target) (P Q R : Holds) (es fs : List Edit) → Leads t es P Q → Leads t fs Q R → Leads t (es ++ fs) P R
leads-then t P Q R es fs h k ds d f p = after-then t Q R es fs ds d f (h ds d f p) k

pub after-places : (t : Target) (P : Holds) (es : List Edit) (ds : List ℕ) (d f : Function) → After t P es ds d f → HavePlaces t d es
after-places t P [] ds d f h = tt
after-places t P (e ∷ es) ds d f h = (h.0, h.1, after-places t P es (gone_after ds e) (deferred d e) (edited f e) h.3)

pub after-spares : (t : Target) (P : Holds) (es : List Edit) (ds : List ℕ) (d f : Function) → After t P es ds d f → SpareGone ds d es
after-spares t P [] ds d f h = tt
after-spares t P (e ∷ es) ds d f h = (h.2, after-spares t P es (gone_after ds e) (deferred d e) (edited f e) h.3)

pub after-all : (t : Target) (P : Holds) (g : Function) (es : List Edit) (ds : List ℕ) (d f : Function) → ((ds : List ℕ) (d f : Function) → P ds d f → f ≡ g) → After t P es ds d f → all_edited f es ≡ g
after-all t P g [] ds d f k h = k ds d f h
after-all t P g (e ∷ es) ds d f k h = after-all t P g es (gone_after ds e) (deferred d e) (edited f e) k h.3

-- no instruction that is left has the id of an erased one
abbrev pub AreGone : List ℕ → ℕ → List Instr → List Block → Type 0
AreGone ds n left post = (id : ℕ) → has id ds ≡ true → (id < n) × (id_count id left + id_total id post ≡ 0)

-- a block is edited: before it stand edited ones; some of its instructions stand, and these are left
pub record IsAt (g : Function) (pre : List Block) (b : Block) (done left : List Instr) (post : List Block) (n : ℕ) (ds : List ℕ) (d f : Function) : Type 0 where
  pub func : f ≡ at g pre b done left post n
  pub single : Single f
  pub earlier : List Block
  pub standing : List Instr
  pub kept : d ≡ at g earlier b standing left post n
  pub kept_single : Single d
  pub same : block_numbers earlier ≡ block_numbers pre
  pub fresh : has_number (block_numbers pre) b.number ≡ false
  pub gone : AreGone ds n left post

not-first : (id : ℕ) (left : List Instr) → id_count id left ≡ 0 → Some id ≢ first_id left
not-first id [] none e = cc
not-first id (i ∷ left) none e = let q : i.id ≡ id = sym (same_Some id i.id e) in omega (arith, count-step id i left, ap one_if (eq-eqb i.id id q), none)

not-own : (id : ℕ) (i : Instr) (left : List Instr) → id_count id (i ∷ left) ≡ 0 → id ≢ i.id
not-own id i left none e = omega (arith, count-step id i left, ap one_if (eq-eqb i.id id (sym e)), none)

gone-past : (ds : List ℕ) (n : ℕ) (i : Instr) (left : List Instr) (post : List Block) → AreGone ds n (i ∷ left) post → AreGone ds n left post
gone-past ds n i left post h id m = let z = h id m in (z.0, omega (arith, z.1, count-step id i left))

-- the instruction of an id in a function whose ids are distinct
only-one : (g : Function) (pre : List Block) (b : Block) (done : List Instr) (i : Instr) (left : List Instr) (post : List Block) (n : ℕ) → Single (at g pre b done (i ∷ left) post n) → (c : Block) (j : Instr) → Stands (at g pre b done (i ∷ left) post n) i.id c j → i ≡ j
only-one g pre b done i left post n is c j s =
    let now : Function = at g pre b done (i ∷ left) post n in
    let own : Block = record b { instrs = done ++ i ∷ left } in
    same-instr (all_instrs now) (all-apart now (single-of now is)) i j
    (instr-member own i now.blocks (among-seat pre own post) (among-seat done i left))
    (instr-member c j now.blocks s.block s.instr) (sym s.named)

module _ (t : Target) (g : Function) (pre : List Block) (b : Block) (post : List Block) where
  abbrev pub In : List Instr → List Instr → ℕ → Holds
  In done left n = IsAt g pre b done left post n

  pub put-leads : (done left : List Instr) (n : ℕ) (op : OpId) (os : List Operand) → IsPlain t (made n op os) → Leads t (Put (gap_at b left) op os ∷ []) (In done left n) (In (done ++ made n op os ∷ []) left (n + 1))
  put-leads done left n op os plain ds d f h =
      let x : Instr = made n op os in
      let fresh : has_number (block_numbers h.earlier) b.number ≡ false = subst (λ ns. has_number ns b.number ≡ false) (sym h.same) h.fresh in
      let next : d.next_id ≡ n = ap (λ (y : Function). y.next_id) h.kept in
      let one : Single (at g pre b done left post n) = subst Single h.func h.single in
      let two : Single (at g h.earlier b h.standing left post n) = subst Single h.kept h.kept_single in
      let func : inserted f (gap_at b left) op os ≡ at g pre b (done ++ x ∷ []) left post (n + 1) = ap (λ (y : Function). inserted y (gap_at b left) op os) h.func ∙ put-there g pre b post h.fresh done left n op os one in
      let kept : inserted d (gap_at b left) op os ≡ at g h.earlier b (h.standing ++ x ∷ []) left post (n + 1) = ap (λ (y : Function). inserted y (gap_at b left) op os) h.kept ∙ put-there g h.earlier b post fresh h.standing left n op os two in (
        subst (λ (y : Function). HasGap y (gap_at b left)) (sym h.kept) (has-gap g h.earlier b post fresh h.standing left n),
        plain,
        (λ id m. (let z = h.gone id m in ((λ e. omega (arith, z.0, e, next)), not-first id left (omega (arith, z.1))))),
        record {
          func = func;
          single = subst Single (sym func) (put-function g pre b post done left n op os one);
          earlier = h.earlier;
          standing = h.standing ++ x ∷ [];
          kept = kept;
          kept_single = subst Single (sym kept) (put-function g h.earlier b post h.standing left n op os two);
          same = h.same;
          fresh = h.fresh;
          gone = λ id m. (let z = h.gone id m in (omega (arith, z.0), z.1));
        },
      )

  pub replace-leads : (done : List Instr) (i : Instr) (left : List Instr) (n : ℕ) (op : OpId) (os : List Operand) → StaysPlain t i (with_op op os i) → Leads t (Replace i.id op os ∷ []) (In done (i ∷ left) n) (In (done ++ with_op op os i ∷ []) left n)
  replace-leads done i left n op os plain ds d f h =
      let one : Single (at g pre b done (i ∷ left) post n) = subst Single h.func h.single in
      let two : Single (at g h.earlier b h.standing (i ∷ left) post n) = subst Single h.kept h.kept_single in
      let func : replaced f i.id op os ≡ at g pre b (done ++ with_op op os i ∷ []) left post n = ap (λ (y : Function). replaced y i.id op os) h.func ∙ replaced-there g pre b post done i left n op os one in
      let kept : replaced d i.id op os ≡ at g h.earlier b (h.standing ++ with_op op os i ∷ []) left post n = ap (λ (y : Function). replaced y i.id op os) h.kept ∙ replaced-there g h.earlier b post h.standing i left n op os two in (
        tt,
        (λ c j s. subst (λ (k : Instr). StaysPlain t k (with_op op os k)) (only-one g h.earlier b h.standing i left post n two c j (subst (λ (y : Function). Stands y i.id c j) h.kept s)) plain),
        (λ id m. (let z = h.gone id m in not-own id i left (omega (arith, z.1)))),
        record {
          func = func;
          single = subst Single (sym func) (replaced-single g pre b post done i left n op os one);
          earlier = h.earlier;
          standing = h.standing ++ with_op op os i ∷ [];
          kept = kept;
          kept_single = subst Single (sym kept) (replaced-single g h.earlier b post h.standing i left n op os two);
          same = h.same;
          fresh = h.fresh;
          gone = gone-past ds n i left post h.gone;
        },
      )

  pub pass-leads : (done : List Instr) (i : Instr) (left : List Instr) (n : ℕ) → Leads t [] (In done (i ∷ left) n) (In (done ++ i ∷ []) left n)
  pass-leads done i left n ds d f h = record {
    func = h.func ∙ passed-there g pre b post done i left n;
    single = h.single;
    earlier = h.earlier;
    standing = h.standing ++ i ∷ [];
    kept = h.kept ∙ passed-there g h.earlier b post h.standing i left n;
    kept_single = h.kept_single;
    same = h.same;
    fresh = h.fresh;
    gone = gone-past ds n i left post h.gone;
  }

  pub erase-leads : (done : List Instr) (i : Instr) (left : List Instr) (n : ℕ) → IsPlain t i → Leads t (Erase i.id ∷ []) (In done (i ∷ left) n) (In done left n)
  erase-leads done i left n plain ds d f h =
      let one : Single (at g pre b done (i ∷ left) post n) = subst Single h.func h.single in
      let two : Single (at g h.earlier b h.standing (i ∷ left) post n) = subst Single h.kept h.kept_single in
      let func : deleted f i.id ≡ at g pre b done left post n = ap (λ (y : Function). deleted y i.id) h.func ∙ deleted-there g pre b post done i left n one in (
        tt,
        (λ c j s. subst (IsPlain t) (only-one g h.earlier b h.standing i left post n two c j (subst (λ (y : Function). Stands y i.id c j) h.kept s)) plain),
        (λ id m. tt),
        record {
          func = func;
          single = subst Single (sym func) (cut-function g pre b post done i left n one);
          earlier = h.earlier;
          standing = h.standing ++ i ∷ [];
          kept = h.kept ∙ passed-there g h.earlier b post h.standing i left n;
          kept_single = h.kept_single;
          same = h.same;
          fresh = h.fresh;
          gone = λ id m. (let e : has id (i.id ∷ ds) ≡ true = m in go id (nat_eq i.id id) refl e);
        },
      )
    where
      go : (id : ℕ) (u : Bool) → nat_eq i.id id ≡ u → cond u true (has id ds) ≡ true → (id < n) × (id_count id left + id_total id post ≡ 0)
      go id true e m = let lone = alone h.earlier b h.standing i left post n (subst Single h.kept h.kept_single) in subst (λ x. (x < n) × (id_count x left + id_total x post ≡ 0)) (eqb-true i.id id e) (lone.below, lone.none)
      go id false e m = gone-past ds n i left post h.gone id m
