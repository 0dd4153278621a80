-- A join loses no value exactly where it loses none at any instruction.
use Rattle.std.proofs.Common.{◌≡◌, ◌∷◌, ◌++◌, ◌≤◌, ◌+◌, ◌∙◌, not, ℕ, zero, suc, Bool, true, false, cond, List, [], Some, map, drop, length, refl, sym, ap, subst, arith, eq-eqb}
use Rattle.std.specs.Prelude.{nat_eq, nat_lt, slice_get}
use Rattle.std.proofs.lemmas.Bool.{le-ltb, lt-ltb}
use Rattle.std.proofs.lemmas.Option.{same_Some, slice_get_within}
use Rattle.target_base.specs.declared.types.Target.{Target}
use Rattle.meaning.specs.declared.types.Lane.{Lane}
use Rattle.meaning.specs.Code.{Code, Item}
use Rattle.meaning.specs.Fold.{Quiet, QuietAt}
use Rattle.meaning.specs.Live.{Live, LiveAfter}
use Rattle.mir_func.specs.declared.func.Instr.{Instr}
use Rattle.mir_func.specs.declared.func.Block.{Block}
use Rattle.mir_func.specs.Value.{Function, id_count, id_total}
use Rattle.mir_func.specs.Edits.{instr_place}
use Rattle.mir_func.proofs.ByPlace.{place_is}
use Rattle.mir_meaning.specs.Codes.{block_end, blocks_code, item_of}
use Rattle.mir_meaning.specs.Points.{AtFirst, block_rest, from_instr, has_instr, point_item, points_of}
use Rattle.mir_meaning.specs.Registers.{is_reserved}
use Rattle.instr_effects.proofs.Members.{member-none}
use Rattle.live_lanes.specs.declared.live.LiveFunc.{LiveFunc}
use Rattle.live_laws.proofs.Effects.Blocks.{slice-member}
use Rattle.live_laws.proofs.Exact.Spots.{drop-at}
use Rattle.edit_laws.proofs.ErasedLast.{total-step}
use Rattle.live_edits.specs.declared.fold.Join.{Join}
use Rattle.live_edits.specs.Folded.{image}
use Rattle.live_edits.proofs.JoiningEdits.{count-step}
use Rattle.join_laws.specs.Quiet.{IsQuiet}
use Rattle.coalescer.specs.Coalescing.{MayCoalesce}
use Rattle.coalescer.specs.QuietInstrs.{QuietInstr, QuietInstrs}
use Rattle.coalescer.proofs.QuietLanes.{lowered-item}

-- where an id stands once, its instruction is found there

abbrev one_if : Bool → ℕ
one_if u = cond u 1 0

counted : (is : List Instr) (q : ℕ) (i : Instr) → slice_get is q ≡ Some i → 1 ≤ id_count i.id is
counted [] q i e = absurd (cc)
counted (x ∷ is) zero i e = let own : one_if (nat_eq x.id i.id) ≡ 1 = ap one_if (eq-eqb x.id i.id (ap (λ (y : Instr). y.id) (same_Some x i e))) in omega (arith, count-step i.id x is, own)
counted (x ∷ is) (suc q) i e = omega (arith, count-step i.id x is, counted is q i e)

total-there : (bs : List Block) (p q : ℕ) (b : Block) (i : Instr) → slice_get bs p ≡ Some b → slice_get b.instrs q ≡ Some i → 1 ≤ id_total i.id bs
total-there [] p q b i e g = absurd (cc)
total-there (c ∷ bs) zero q b i e g = let n = counted c.instrs q i (ap (λ (d : Block). slice_get d.instrs q) (same_Some c b e) ∙ g) in omega (arith, total-step i.id c bs, n)
total-there (c ∷ bs) (suc p) q b i e g = omega (arith, total-step i.id c bs, total-there bs p q b i e g)

absent : (id : ℕ) (is : List Instr) → id_count id is ≡ 0 → length is ≤ instr_place id is
absent id [] none = omega arith
absent id (i ∷ is) none = go (nat_eq i.id id) (count-step id i is) (absent id is)
  where
    go : (u : Bool) → id_count id (i ∷ is) ≡ one_if u + id_count id is → (id_count id is ≡ 0 → length is ≤ instr_place id is) → length (i ∷ is) ≤ cond (not u) (1 + instr_place id is) 0
    go true s ih = absurd (omega arith)
    go false s ih = let z : length is ≤ instr_place id is = ih (omega arith) in omega arith

module _ (t : Target) (f : Function) where
  abbrev ahead : Block → List Block → ℕ → Code
  ahead b after q = map (point_item t f b) (drop (suc q) b.instrs) ++ (block_end t f b after ∷ blocks_code (point_item t f) t f after)

  -- the code from the instruction at a place on
  from-at : (bs : List Block) (p q : ℕ) (b : Block) (i : Instr) → slice_get bs p ≡ Some b → slice_get b.instrs q ≡ Some i → id_total i.id bs ≤ 1 → from_instr t f i.id bs ≡ point_item t f b i ∷ ahead b (drop (suc p) bs) q
  from-at [] p q b i e g once = absurd (cc)
  from-at (c ∷ bs) zero q b i e g once =
      let same : c ≡ b = same_Some c b e in
      let there : slice_get c.instrs q ≡ Some i = ap (λ (d : Block). slice_get d.instrs q) same ∙ g in
      let place : instr_place i.id c.instrs ≡ q = place_is i.id q i c.instrs there refl (let s = total-step i.id c bs in omega (arith, once, s)) in
      let has : has_instr i.id c ≡ true = ap (λ n. nat_lt n (length c.instrs)) place ∙ lt-ltb q (length c.instrs) (slice_get_within c.instrs q i there) in
      ap (λ u. cond u (block_rest t f c bs (instr_place i.id c.instrs)) (from_instr t f i.id bs)) has ∙ ap (block_rest t f c bs) place
      ∙ ap (λ (is : List Instr). map (point_item t f c) is ++ (block_end t f c bs ∷ blocks_code (point_item t f) t f bs)) (drop-at c.instrs q i there).0
      ∙ ap (λ (d : Block). point_item t f d i ∷ ahead d bs q) same
  from-at (c ∷ bs) (suc p) q b i e g once =
      let s = total-step i.id c bs in
      let some = total-there bs p q b i e g in
      let none : id_count i.id c.instrs ≡ 0 = omega (arith, once, s, some) in
      let gone : has_instr i.id c ≡ false = le-ltb (instr_place i.id c.instrs) (length c.instrs) (absent i.id c.instrs none) in
      ap (λ u. cond u (block_rest t f c bs (instr_place i.id c.instrs)) (from_instr t f i.id bs)) gone ∙ from-at bs p q b i e g (omega (arith, once, s))

  module _ (m : Lane → Lane) where
    abbrev R : Lane → Bool
    R = is_reserved t

    abbrev C : Code
    C = points_of t f

    abbrev QuietIn : Block → Instr → Code → Type 0
    QuietIn b i p = QuietAt R C m (point_item t f b i) p

    -- each instruction is quiet where it stands
    abbrev AllQuiet : List Block → Type 0
    AllQuiet bs = (p q : ℕ) (b : Block) (i : Instr) → slice_get bs p ≡ Some b → slice_get b.instrs q ≡ Some i → QuietIn b i (ahead b (drop (suc p) bs) q)

    behind-items : (b : Block) (is : List Instr) (p : Code) → Quiet R C m (map (point_item t f b) is ++ p) → Quiet R C m p
    behind-items b [] p h = h
    behind-items b (i ∷ is) p h = behind-items b is p h.1

    in-items : (b : Block) (is : List Instr) (p : Code) → Quiet R C m (map (point_item t f b) is ++ p) → (q : ℕ) (i : Instr) → slice_get is q ≡ Some i → QuietIn b i (map (point_item t f b) (drop (suc q) is) ++ p)
    in-items b [] p h q i e = absurd (cc)
    in-items b (x ∷ is) p h zero i e = subst (λ y. QuietIn b y (map (point_item t f b) is ++ p)) (same_Some x i e) h.0
    in-items b (x ∷ is) p h (suc q) i e = in-items b is p h.1 q i e

    in-blocks : (bs : List Block) → Quiet R C m (blocks_code (point_item t f) t f bs) → AllQuiet bs
    in-blocks [] h p q b i e g = absurd (cc)
    in-blocks (c ∷ bs) h zero q b i e g =
        subst (λ (d : Block). slice_get d.instrs q ≡ Some i → QuietIn d i (ahead d bs q)) (same_Some c b e) (in-items c c.instrs (block_end t f c bs ∷ blocks_code (point_item t f) t f bs) h.1 q i) g
    in-blocks (c ∷ bs) h (suc p) q b i e g = in-blocks bs (behind-items c c.instrs (block_end t f c bs ∷ blocks_code (point_item t f) t f bs) h.1).1 p q b i e g

    all-items : (b : Block) (is : List Instr) (p : Code) → ((q : ℕ) (i : Instr) → slice_get is q ≡ Some i → QuietIn b i (map (point_item t f b) (drop (suc q) is) ++ p)) → Quiet R C m p → Quiet R C m (map (point_item t f b) is ++ p)
    all-items b [] p h rest = rest
    all-items b (x ∷ is) p h rest = (h 0 x refl, all-items b is p (λ q i e. h (suc q) i e) rest)

    all-blocks : (bs : List Block) → AllQuiet bs → Quiet R C m (blocks_code (point_item t f) t f bs)
    all-blocks [] h = tt
    all-blocks (b ∷ bs) h = (
      (λ w mw. absurd (member-none w mw)),
      all-items b b.instrs (block_end t f b bs ∷ blocks_code (point_item t f) t f bs) (λ q i e. h 0 q b i refl e) ((λ w mw. absurd (member-none w mw)), all-blocks bs (λ p q c i e g. h (suc p) q c i e g)),
    )

    points-are : C ≡ blocks_code (point_item t f) t f f.blocks
    unfolding points_of
    points-are = refl

    each-quiet : Quiet R C m C → AllQuiet f.blocks
    each-quiet h = in-blocks f.blocks (subst (Quiet R C m) points-are h)

    whole-quiet : AllQuiet f.blocks → Quiet R C m C
    whole-quiet h = subst (Quiet R C m) (sym points-are) (all-blocks f.blocks h)

    to-instr : (i : Instr) (item : Item) (p : Code) → from_instr t f i.id f.blocks ≡ item ∷ p → QuietAt R C m item p → QuietInstr t f m i item
    to-instr i item p e h w mw fresh l same differ =
        let z = h w mw fresh l same differ in (
          (λ g. z.0 (subst (AtFirst (λ y c. LiveAfter R C y c l)) e g)),
          z.1,
          (λ early g. z.2 early (subst (λ c. Live R C c l) e g)),
        )

    of-instr : (i : Instr) (item : Item) (p : Code) → from_instr t f i.id f.blocks ≡ item ∷ p → QuietInstr t f m i item → QuietAt R C m item p
    of-instr i item p e h w mw fresh l same differ =
        let z = h w mw fresh l same differ in (
          (λ g. z.0 (subst (AtFirst (λ y c. LiveAfter R C y c l)) (sym e) g)),
          z.1,
          (λ early g. z.2 early (subst (λ c. Live R C c l) (sym e) g)),
        )

once-by : (n id : ℕ) (bs : List Block) → id_total id bs ≤ cond (nat_lt id n) 1 0 → id_total id bs ≤ 1
once-by n id bs h = go (nat_lt id n) h
  where
    go : (u : Bool) → id_total id bs ≤ cond u 1 0 → id_total id bs ≤ 1
    go true h = h
    go false h = omega arith

module _ (t : Target) (x : LiveFunc) (may : MayCoalesce t x) (m : Lane → Lane) where
  abbrev f : Function
  f = x.func

  module _ (p q : ℕ) (b : Block) (i : Instr) (e : slice_get x.func.blocks p ≡ Some b) (g : slice_get b.instrs q ≡ Some i) where
    item-is : point_item t f b i ≡ item_of t f b i
    item-is = lowered-item t x may b i (slice-member f.blocks p b e) (slice-member b.instrs q i g)

    code-is : from_instr t f i.id f.blocks ≡ item_of t f b i ∷ ahead t f b (drop (suc p) f.blocks) q
    code-is = from-at t f f.blocks p q b i e g (once-by f.next_id i.id f.blocks (may.lowered.function.once i.id)) ∙ ap (λ y. y ∷ ahead t f b (drop (suc p) f.blocks) q) item-is

    instr-quiet : QuietAt (is_reserved t) (points_of t f) m (point_item t f b i) (ahead t f b (drop (suc p) f.blocks) q) → QuietInstr t f m i (item_of t f b i)
    instr-quiet h = to-instr t f m i (item_of t f b i) (ahead t f b (drop (suc p) f.blocks) q) code-is (subst (λ y. QuietAt (is_reserved t) (points_of t f) m y (ahead t f b (drop (suc p) f.blocks) q)) item-is h)

    point-quiet : QuietInstr t f m i (item_of t f b i) → QuietAt (is_reserved t) (points_of t f) m (point_item t f b i) (ahead t f b (drop (suc p) f.blocks) q)
    point-quiet h = subst (λ y. QuietAt (is_reserved t) (points_of t f) m y (ahead t f b (drop (suc p) f.blocks) q)) (sym item-is) (of-instr t f m i (item_of t f b i) (ahead t f b (drop (suc p) f.blocks) q) code-is h)

  pub to-instrs : Quiet (is_reserved t) (points_of t f) m (points_of t f) → QuietInstrs t f m
  to-instrs h p q b i e g = instr-quiet p q b i e g (each-quiet t f m h p q b i e g)

  pub of-instrs : QuietInstrs t f m → Quiet (is_reserved t) (points_of t f) m (points_of t f)
  of-instrs h = whole-quiet t f m (λ p q b i e g. point-quiet p q b i e g (h p q b i e g))

pub quiet-instrs : (t : Target) (x : LiveFunc) (j : Join) → MayCoalesce t x → IsQuiet t x.func j → QuietInstrs t x.func (image t j)
quiet-instrs t x j may h = to-instrs t x may (image t j) h

pub instrs-quiet : (t : Target) (x : LiveFunc) (j : Join) → MayCoalesce t x → QuietInstrs t x.func (image t j) → IsQuiet t x.func j
instrs-quiet t x j may h = of-instrs t x may (image t j) h
