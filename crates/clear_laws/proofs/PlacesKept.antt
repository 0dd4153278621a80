-- A function whose blocks go over to those of another place by place: other ranges and units are live and occupied at most as they were.
use Rattle.std.proofs.Common.{◌≡◌, ◌⊎◌, inl, inr, ◌++◌, ◌∙◌, Bool, true, false, cond, ℕ, List, [], ◌∷◌, length, map, refl, sym, ap, subst, append_assoc}
use Rattle.std.specs.Prelude.{nat_eq, Option}
use Rattle.target_base.specs.declared.types.Target.{Target}
use Rattle.meaning.specs.Code.{BlockEnd, BlockStart, Code, Edge, Item, found}
use Rattle.meaning.specs.Lanes.{Writes}
use Rattle.meaning.specs.Live.{Among as Member, Live, LiveAfter, OccupiedAfter, OccupiedBefore, Writing, WritingEarly}
use Rattle.meaning.specs.declared.types.Lane.{Lane}
use Rattle.mir_func.specs.declared.func.Edge.{Edge as Successor}
use Rattle.mir_func.specs.declared.func.Instr.{Instr}
use Rattle.mir_func.specs.declared.func.Block.{Block}
use Rattle.mir_func.specs.Value.{Function, IsFunction}
use Rattle.mir_meaning.specs.Registers.{is_reserved}
use Rattle.mir_meaning.specs.Codes.{block_end, blocks_code, way, ways_out}
use Rattle.mir_meaning.specs.Points.{AtFirst, Entry, Exit, OccupiedAt, Point, Start, from_instr, has_no_phis, point_item, points_of}
use Rattle.instr_effects.proofs.Members.{map-of, member-none}
use Rattle.live_laws.proofs.Effects.Blocks.{items-past}
use Rattle.split_laws.proofs.Splitting.{map-append, way-bare}
use Rattle.clear_laws.specs.Spills.{HasEarlyReload}
use Rattle.clear_laws.proofs.Bounds.{After, IsBounded, Laid, Makes, Through, after-bounded, bounded, feeds, joins, keeps, leads, nowhere, place, reads, stores}
use Rattle.clear_laws.proofs.PlaceBounds.{GoesOn, KeptLane, May, Was, as-itself, as-range, as-slot, is-further, stays-bounded, untold, was-more}
use Rattle.clear_laws.proofs.SplitPoints.{free}
use Rattle.clear_laws.proofs.Places.{Place, code-behind, code-here, place-of}

-- where one of the first instructions stands, or one of the others
data Side (front : List Instr) (y : Instr) (back js rest : List Instr) : Type 0 where
  left : (more : List Instr) → front ++ y ∷ more ≡ js → back ≡ more ++ rest → Side front y back js rest
  right : (more : List Instr) → more ++ y ∷ back ≡ rest → Side front y back js rest

side : (front : List Instr) (y : Instr) (back js rest : List Instr) → front ++ y ∷ back ≡ js ++ rest → Side front y back js rest
side front y back [] rest e = right front e
side [] y back (j ∷ js) rest e = let one : y ≡ j = cc in left js (ap (λ x. x ∷ js) one) (cc)
side (z ∷ front) y back (j ∷ js) rest e = let one : z ≡ j = cc in go one (side front y back js rest (cc))
  where
    go : z ≡ j → Side front y back js rest → Side (z ∷ front) y back (j ∷ js) rest
    go one (left more w q) = left more (λ k. one k ∷ w k) q
    go one (right more w) = right more w

no-place : (front : List Instr) (y : Instr) (back : List Instr) → front ++ y ∷ back ≡ [] → ⊥
no-place [] y back e = cc
no-place (z ∷ front) y back e = cc

first : {A : Type 0} (P : Item → Code → Type 0) → ((i : Item) (p : Code) → P i p → A) → (c : Code) → AtFirst P c → A
first P h [] x = absurd x
first P h (i ∷ p) x = h i p x

-- f goes over to g, where range v is spilled to a slot
module _ (t : Target) (f g : Function) (v slot : ℕ) (wide : ℕ → Type 0) (stored : Code → ℕ → Type 0) where
  abbrev pub R : Lane → Bool
  R = is_reserved t

  abbrev pub C : Code
  C = points_of t f

  abbrev pub D : Code
  D = points_of t g

  abbrev pub MayBe : Code → Lane → Type 0
  MayBe p l = May R C D (length f.classes) v slot wide stored p l

  abbrev pub Leads : Code → Code → Type 0
  Leads p r = Laid R C D MayBe p r

  abbrev pub items-of : Block → List Instr → List Item
  items-of b is = map (point_item t f b) is

  abbrev pub items-now : Block → List Instr → List Item
  items-now c js = map (point_item t g c) js

  -- what holds of lanes before the spill, told of one behind it
  abbrev pub WasSo : (Lane → Type 0) → Lane → Type 0
  WasSo P l = Was (length f.classes) v slot (HasEarlyReload t) P l

  pub so-more : (P Q : Lane → Type 0) → ((a : Lane) → P a → Q a) → (l : Lane) → WasSo P l → WasSo Q l
  so-more P Q h l z = was-more (length f.classes) v slot (HasEarlyReload t) P Q h l z

  -- none of these lanes is reserved
  pub so-free : (P : Lane → Type 0) (l : Lane) → R l ≡ false → WasSo P l → WasSo (λ a. P a × (R a ≡ false)) l
  so-free P l r (as-itself z x) = as-itself z (x, r)
  so-free P l r (as-range k w e x) = as-range k w e (x, refl)
  so-free P l r (as-slot k w u e x) = as-slot k w u e (x, refl)
  so-free P l r (is-further z) = is-further z
  so-free P l r (untold z k w e) = untold z k w e

  -- what may be live in g was live in f
  pub may-so : (p : Code) (l : Lane) → MayBe p l → WasSo (Live R C p) l
  may-so p l (inl y) = as-itself y.0 y.1
  may-so p l (inr y) = go y.from
    where
      go : KeptLane R C D (length f.classes) v slot wide stored p y.k → WasSo (Live R C p) l
      go (inl z) = as-slot y.k y.w z.0 y.is z.2
      go (inr z) = as-range y.k y.w y.is z.0

  -- At a point of f lanes are occupied where these statements hold of them behind the spill.
  abbrev pub Told : (Lane → Type 0) → Type 0
  Told P = (q : Point) × ((l : Lane) → R l ≡ false → P l → WasSo (OccupiedAt t f q) l)

  -- Instructions of block b, which p follows, became others in block c: what may be live behind them may be live before them, and
  -- at each of their entries and exits lanes are occupied at most as at some point of f.
  pub record PlaceKept (b c : Block) (is js : List Instr) (p : Code) : Type 0 where
    pub bounds : IsBounded R C D MayBe (items-of b is) (items-now c js) p
    pub entry : (front : List Instr) (y : Instr) (back : List Instr) → front ++ y ∷ back ≡ js → Told (λ l. Through R C D MayBe (items-now c (y ∷ back)) (MayBe p) l ⊎ WritingEarly (point_item t g c y) l)
    pub exit : (front : List Instr) (y : Instr) (back : List Instr) → front ++ y ∷ back ≡ js → Told (λ l. After R C D MayBe (point_item t g c y) (Through R C D MayBe (items-now c back) (MayBe p)) l ⊎ Writing (point_item t g c y) l)

  -- instructions go over place by place
  pub data Places (b c : Block) (after : List Block) : List Instr → List Instr → Type 0 where
    no-more : Places b c after [] []
    goes : (is js : List Instr) {rest rest' : List Instr} → PlaceKept b c is js (code-behind t f b after rest) → Places b c after rest rest' → Places b c after (is ++ rest) (js ++ rest')

  -- blocks go over one by one
  pub data Blocks : List Block → List Block → Type 0 where
    no-blocks : Blocks [] []
    block : (b c : Block) {after after' : List Block} → c.number ≡ b.number → c.successors ≡ b.successors → Places b c after b.instrs c.instrs → Blocks after after' → Blocks (b ∷ after) (c ∷ after')

  module _ (on : GoesOn R C D (length f.classes) v slot wide stored) (none : has_no_phis t f.blocks ≡ true) (none' : has_no_phis t g.blocks ≡ true) where
    start-bounded : (n : ℕ) (p : Code) → IsBounded R C D MayBe (BlockStart n ∷ []) (BlockStart n ∷ []) p
    start-bounded n p = stays-bounded R C D (length f.classes) v slot wide stored on (BlockStart n) p (record {
      reads = λ ss l x y. absurd (member-none ss x);
      moves = λ w l x e. absurd (member-none w x);
      writes = λ l z. absurd (member-none z.0 z.1);
      bare = λ e m. absurd (member-none e m);
      apart = λ k w h z. member-none z.0 z.1;
      slots = λ k u w h g z. absurd (member-none z.0 z.1);
      registers = λ k w l z f. absurd (member-none z.0 z.1);
      leaves = λ e k w m z. member-none z.0 z.1;
    })

    bare-out : (b : Block) (e : Edge) → Member e (ways_out t f b) → e.phis ≡ []
    bare-out b e m =
        let z = map-of (λ (s : Successor). way t f b.number s.block) e b.successors m in
        ap (λ (w : Edge). w.phis) z.2 ∙ ap (λ (w : Edge). w.phis) (way-bare t f none b.number z.0.block)

    ways-same : (n : ℕ) (es : List Successor) → map (λ (e : Successor). way t g n e.block) es ≡ map (λ (e : Successor). way t f n e.block) es
    ways-same n [] = refl
    ways-same n (e ∷ es) = λ k. (way-bare t g none' n e.block ∙ sym (way-bare t f none n e.block)) k ∷ ways-same n es k

    outs-same : (b c : Block) → c.number ≡ b.number → c.successors ≡ b.successors → ways_out t g c ≡ ways_out t f b
    outs-same b c number successors = (λ k. map (λ (e : Successor). way t g (number k) e.block) (successors k)) ∙ ways-same b.number b.successors

    falls-aside : (X : Lane → Type 0) (falls falls' : Option Writes) (exits : List Edge) (l : Lane) → Makes R C D MayBe (BlockEnd falls' exits) X l → Makes R C D MayBe (BlockEnd falls exits) X l
    falls-aside X falls falls' exits l (reads {ss = ss} x y) = absurd (member-none ss x)
    falls-aside X falls falls' exits l (feeds o x h) = absurd (cc)
    falls-aside X falls falls' exits l (leads m x h k) = leads m x h k
    falls-aside X falls falls' exits l (joins m x h k) = joins m x h k
    falls-aside X falls falls' exits l (stores w o x h k) = absurd (cc)
    falls-aside X falls falls' exits l (keeps r h) = keeps r h

    end-bounded : (b : Block) (falls falls' : Option Writes) (exits : List Edge) → exits ≡ ways_out t f b → (p : Code) → IsBounded R C D MayBe (BlockEnd falls (ways_out t f b) ∷ []) (BlockEnd falls' exits ∷ []) p
    end-bounded b falls falls' exits e p l z =
        stays-bounded R C D (length f.classes) v slot wide stored on (BlockEnd falls (ways_out t f b)) p (record {
          reads = λ ss l x y. absurd (member-none ss x);
          moves = λ w l x h. absurd (member-none w x);
          writes = λ l z. absurd (member-none z.0 z.1);
          bare = bare-out b;
          apart = λ k w h y. member-none y.0 y.1;
          slots = λ k u w h g z. absurd (member-none z.0 z.1);
          registers = λ k w l z f. absurd (member-none z.0 z.1);
          leaves = λ e k w m z. member-none z.0 z.1;
        }) l (falls-aside (MayBe p) falls falls' (ways_out t f b) l (subst (λ es. Makes R C D MayBe (BlockEnd falls' es) (MayBe p) l) e z.0), z.1)

    -- codes

    module _ (b c : Block) (after after' : List Block) where
      laid-places : {is js : List Instr} → Places b c after is js → Leads (code-behind t f b after []) (code-behind t g c after' []) → Leads (code-behind t f b after is) (code-behind t g c after' js)
      laid-places no-more d = d
      laid-places (goes is js {rest = rest} {rest' = rest'} k more) d =
          subst (λ p. Leads p (code-behind t g c after' (js ++ rest'))) (sym (moved-over f b after is rest))
          (subst (Leads (items-of b is ++ code-behind t f b after rest)) (sym (moved-over g c after' js rest'))
          (place (items-of b is) (items-now c js) k.bounds (laid-places more d)))
        where
          moved-over : (h : Function) (d : Block) (after : List Block) (is rest : List Instr) → code-behind t h d after (is ++ rest) ≡ map (point_item t h d) is ++ code-behind t h d after rest
          moved-over h d after is rest =
              let end = block_end t h d after ∷ blocks_code (point_item t h) t h after in
              ap (λ xs. xs ++ end) (map-append (point_item t h d) is rest) ∙ append_assoc (map (point_item t h d) is) (map (point_item t h d) rest) end

      -- the place of an instruction
      record Found (y : Instr) (back : List Instr) : Type 0 where
        pub is : List Instr
        pub js : List Instr
        pub p : Code
        pub r : Code
        pub kept : PlaceKept b c is js p
        pub laid : Leads p r
        pub front : List Instr
        pub more : List Instr
        pub whole : front ++ y ∷ more ≡ js
        pub code : code-behind t g c after' back ≡ items-now c more ++ r

      find : {is js : List Instr} → Places b c after is js → Leads (code-behind t f b after []) (code-behind t g c after' []) → (front : List Instr) (y : Instr) (back : List Instr) → front ++ y ∷ back ≡ js → Found y back
      find no-more d front y back e = absurd (no-place front y back e)
      find (goes is js {rest = rest} {rest' = rest'} k more) d front y back e = go (side front y back js rest' e) (λ x. find more d x y back)
        where
          behind-same : (xs : List Instr) → code-behind t g c after' (xs ++ rest') ≡ items-now c xs ++ code-behind t g c after' rest'
          behind-same xs =
              let end = block_end t g c after' ∷ blocks_code (point_item t g) t g after' in
              ap (λ ys. ys ++ end) (map-append (point_item t g c) xs rest') ∙ append_assoc (items-now c xs) (items-now c rest') end

          go : Side front y back js rest' → ((x : List Instr) → x ++ y ∷ back ≡ rest' → Found y back) → Found y back
          go (left xs w q) ih = record {
            is = is;
            js = js;
            p = code-behind t f b after rest;
            r = code-behind t g c after' rest';
            kept = k;
            laid = laid-places more d;
            front = front;
            more = xs;
            whole = w;
            code = ap (code-behind t g c after') q ∙ behind-same xs;
          }
          go (right xs w) ih = ih xs w

      laid-end : c.number ≡ b.number → c.successors ≡ b.successors → Leads (blocks_code (point_item t f) t f after) (blocks_code (point_item t g) t g after') → Leads (code-behind t f b after []) (code-behind t g c after' [])
      laid-end number successors d = place (block_end t f b after ∷ []) (block_end t g c after' ∷ []) (end-bounded b _ _ (ways_out t g c) (outs-same b c number successors) (blocks_code (point_item t f) t f after)) d

    laid-blocks : {bs cs : List Block} → Blocks bs cs → Leads (blocks_code (point_item t f) t f bs) (blocks_code (point_item t g) t g cs)
    laid-blocks no-blocks = nowhere
    laid-blocks (block b c {after = after} {after' = after'} number successors ps more) =
        subst (λ n. Leads (BlockStart b.number ∷ code-behind t f b after b.instrs) (BlockStart n ∷ code-behind t g c after' c.instrs)) (sym number)
        (place (BlockStart b.number ∷ []) (BlockStart b.number ∷ []) (start-bounded b.number (code-behind t f b after b.instrs))
        (laid-places b c after after' ps (laid-end b c after after' number successors (laid-blocks more))))

    laid-starts : (n : ℕ) {bs cs : List Block} → Blocks bs cs → Leads (found n (blocks_code (point_item t f) t f bs)) (found n (blocks_code (point_item t g) t g cs))
    laid-starts n no-blocks = nowhere
    laid-starts n (block b c {after = after} {after' = after'} number successors ps more) =
        subst (λ m. Leads (cond (nat_eq b.number n) (code-behind t f b after b.instrs) (found n (code-behind t f b after b.instrs))) (cond (nat_eq m n) (code-behind t g c after' c.instrs) (found n (code-behind t g c after' c.instrs)))) (sym number)
        (go (nat_eq b.number n) (laid-places b c after after' ps (laid-end b c after after' number successors (laid-blocks more))) (laid-starts n more))
      where
        go : (q : Bool) → Leads (code-behind t f b after b.instrs) (code-behind t g c after' c.instrs) → Leads (found n (blocks_code (point_item t f) t f after)) (found n (blocks_code (point_item t g) t g after'))
            → Leads (cond q (code-behind t f b after b.instrs) (found n (code-behind t f b after b.instrs))) (cond q (code-behind t g c after' c.instrs) (found n (code-behind t g c after' c.instrs)))
        go true d ih = d
        go false d ih =
            subst (λ p. Leads p (found n (code-behind t g c after' c.instrs))) (sym (items-past t f n b b.instrs (code-behind t f b after [])))
            (subst (Leads (found n (blocks_code (point_item t f) t f after))) (sym (items-past t g n c c.instrs (code-behind t g c after' []))) ih)

    -- the whole functions
    module _ (whole : IsFunction g.blocks g.next_id) (all : Blocks f.blocks g.blocks) where
      starts : (n : ℕ) → Leads (found n C) (found n D)
      unfolding points_of
      starts n = laid-starts n all

      -- the instruction of an id, in its place
      record Standing (id : ℕ) : Type 0 where
        pub before : Block
        pub now : Block
        pub is : List Instr
        pub js : List Instr
        pub p : Code
        pub r : Code
        pub kept : PlaceKept before now is js p
        pub laid : Leads p r
        pub front : List Instr
        pub instr : Instr
        pub more : List Instr
        pub placed : front ++ instr ∷ more ≡ js
        pub code : from_instr t g id g.blocks ≡ point_item t g now instr ∷ (items-now now more ++ r)

      on-code : (d : Block) (rest' : List Block) (c : Block) (after : List Block) (y : Instr) (back more : List Instr) (r : Code) (id : ℕ) → from_instr t g id g.blocks ≡ code-behind t g c after (y ∷ back) → c ≡ d → after ≡ rest'
          → code-behind t g d rest' back ≡ items-now d more ++ r → from_instr t g id g.blocks ≡ point_item t g d y ∷ (items-now d more ++ r)
      on-code d rest' c after y back more r id at same tail e = at ∙ ((λ k. code-behind t g (same k) (tail k) (y ∷ back)) ∙ ap (λ q. point_item t g d y ∷ q) e)

      standing-in : {bs cs : List Block} → Blocks bs cs → (pre : List Block) (c : Block) (after : List Block) → pre ++ c ∷ after ≡ cs → (front : List Instr) (y : Instr) (back : List Instr) → front ++ y ∷ back ≡ c.instrs
          → (id : ℕ) → from_instr t g id g.blocks ≡ code-behind t g c after (y ∷ back) → Standing id
      standing-in no-blocks pre c after e front y back w id at = absurd (no-block pre e)
        where
          no-block : (pre : List Block) → pre ++ c ∷ after ≡ [] → ⊥
          no-block [] e = cc
          no-block (x ∷ pre) e = cc
      standing-in (block b d {after = rest} {after' = rest'} number successors ps more) [] c after e front y back w id at =
          let same : c ≡ d = cc in
          let z = find b d rest rest' ps (laid-end b d rest rest' number successors (laid-blocks more)) front y back (w ∙ ap (λ (x : Block). x.instrs) same) in
          record {
            before = b;
            now = d;
            is = z.is;
            js = z.js;
            p = z.p;
            r = z.r;
            kept = z.kept;
            laid = z.laid;
            front = z.front;
            instr = y;
            more = z.more;
            placed = z.whole;
            code = on-code d rest' c after y back z.more z.r id at same (cc) z.code;
          }
      standing-in (block b d number successors ps more) (x ∷ pre) c after e front y back w id at = standing-in more pre c after (cc) front y back w id at

      standing : (id : ℕ) → (from_instr t g id g.blocks ≡ []) ⊎ Standing id
      standing id = go (place-of t g id g.blocks)
        where
          go : (from_instr t g id g.blocks ≡ []) ⊎ Place id g.blocks → (from_instr t g id g.blocks ≡ []) ⊎ Standing id
          go (inl e) = inl e
          go (inr z) =
              inr (standing-in all z.pre z.block z.after z.blocks z.inside.front z.inside.instr z.inside.back z.inside.whole id
              (ap (λ n. from_instr t g n g.blocks) (sym z.inside.named) ∙ code-here t g whole z.pre z.block z.after z.blocks z.inside.front z.inside.instr z.inside.back z.inside.whole))

      -- what is live at the start of a block may be
      pub start-may : (n : ℕ) (l : Lane) → OccupiedAt t g (Start n) l → MayBe (found n C) l
      start-may n l h = bounded R C D MayBe starts h [] (found n D) (found n C) refl (starts n)

      at-start : (n : ℕ) (l : Lane) → OccupiedAt t g (Start n) l → WasSo (OccupiedAt t f (Start n)) l
      at-start n l h = may-so (found n C) l (start-may n l h)

      at-entry : (id : ℕ) (z : Standing id) → Told (OccupiedAt t g (Entry id))
      at-entry id z =
          let told = z.kept.entry z.front z.instr z.more z.placed in
          (told.0, λ l r h. (let y = subst (AtFirst (λ i p. OccupiedBefore R D i p l)) z.code h in told.1 l r (go l y.0)))
        where
          go : (l : Lane) → Live R D (point_item t g z.now z.instr ∷ (items-now z.now z.more ++ z.r)) l ⊎ WritingEarly (point_item t g z.now z.instr) l → Through R C D MayBe (items-now z.now (z.instr ∷ z.more)) (MayBe z.p) l ⊎ WritingEarly (point_item t g z.now z.instr) l
          go l (inl h) = inl (bounded R C D MayBe starts h (items-now z.now (z.instr ∷ z.more)) z.r z.p refl z.laid)
          go l (inr h) = inr h

      at-exit : (id : ℕ) (z : Standing id) → Told (OccupiedAt t g (Exit id))
      at-exit id z =
          let told = z.kept.exit z.front z.instr z.more z.placed in
          (told.0, λ l r h. (let y = subst (AtFirst (λ i p. OccupiedAfter R D i p l)) z.code h in told.1 l r (go l y.0)))
        where
          go : (l : Lane) → LiveAfter R D (point_item t g z.now z.instr) (items-now z.now z.more ++ z.r) l ⊎ Writing (point_item t g z.now z.instr) l → After R C D MayBe (point_item t g z.now z.instr) (Through R C D MayBe (items-now z.now z.more) (MayBe z.p)) l ⊎ Writing (point_item t g z.now z.instr) l
          go l (inl h) = inl (after-bounded R C D MayBe starts h (items-now z.now z.more) z.r z.p refl z.laid)
          go l (inr h) = inr h

      -- a lane that is occupied at a point isn't reserved
      unreserved : (p : Point) (l : Lane) → OccupiedAt t g p l → R l ≡ false
      unreserved (Start n) l h = free h
      unreserved (Entry id) l h = first (λ i p. OccupiedBefore R D i p l) (λ i p x. x.1) (from_instr t g id g.blocks) h
      unreserved (Exit id) l h = first (λ i p. OccupiedAfter R D i p l) (λ i p x. x.1) (from_instr t g id g.blocks) h

      -- at each point of g lanes are occupied at most as at one point of f
      abbrev At : Point → Type 0
      At p = (q : Point) × ((l : Lane) → OccupiedAt t g p l → WasSo (OccupiedAt t f q) l)

      pub places-keep : (p : Point) → At p
      places-keep (Start n) = (Start n, λ l h. at-start n l h)
      places-keep (Entry id) = go (standing id)
        where
          go : (from_instr t g id g.blocks ≡ []) ⊎ Standing id → At (Entry id)
          go (inl e) = (Start 0, λ l h. absurd (subst (AtFirst (λ i p. OccupiedBefore R D i p l)) e h))
          go (inr z) = let y = at-entry id z in (y.0, λ l h. y.1 l (unreserved (Entry id) l h) h)
      places-keep (Exit id) = go (standing id)
        where
          go : (from_instr t g id g.blocks ≡ []) ⊎ Standing id → At (Exit id)
          go (inl e) = (Start 0, λ l h. absurd (subst (AtFirst (λ i p. OccupiedAfter R D i p l)) e h))
          go (inr z) = let y = at-exit id z in (y.0, λ l h. y.1 l (unreserved (Exit id) l h) h)
