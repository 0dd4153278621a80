-- Blocks are noted at those that follow them.
use Rattle.std.proofs.Common.{add-one, ◌+◌, ◌≡◌, ◌<◌, ◌≤◌, ℕ, zero, suc, Bool, true, false, cond, ◌&&◌, ◌||◌, length, List, [], ◌∷◌, ◌++◌, take, Option, None, Some, refl, sym, ap, ◌∙◌, subst, arith, get_or, set, eqb-true, length-set, ⊎_elim}
use Rattle.std.specs.Prelude.{slice_get, nat_eq, nat_lt}
use Rattle.std.specs.List.{cons_option, list_any}
use Rattle.std.proofs.lemmas.Bool.{cases_lt, lt-ltb, le-ltb, eqb-false}
use Rattle.std.proofs.Math.Dec.{eqb-zero-suc, eqb-suc-zero, eqb-suc-suc}
use Rattle.std.proofs.lemmas.Option.{slice_get-get_or, slice_get_past}
use Rattle.target_base.specs.declared.types.Target.{Target}
use Rattle.mir_func.specs.declared.func.Block.{Block}
use Rattle.mir_func.specs.declared.func.Edge.{Edge}
use Rattle.live_lanes.specs.declared.compute.flow.BlockFlow.{BlockFlow}
use Rattle.mir_meaning.specs.Paths.{has}
use Rattle.live_lanes.specs.Ways.{predecessors, terminators, successors}
use Rattle.live_lanes.specs.Flowing.{edge_places, exits_at, terminators_at, terminator_ids, Notes, NotesAll, AreOut, AreWays}

get-set : {X : Type 0} (xs : List X) (k l : ℕ) (y : X) → k < length xs → slice_get (set xs k y) l ≡ cond (nat_eq k l) (Some y) (slice_get xs l)
get-set [] k l y h = absurd (omega arith)
get-set (x ∷ xs) zero zero y h = refl
get-set (x ∷ xs) zero (suc l) y h = sym (ap (λ t. cond t (Some y) (slice_get xs l)) (eqb-zero-suc l))
get-set (x ∷ xs) (suc k) zero y h = sym (ap (λ t. cond t (Some y) (Some x)) (eqb-suc-zero k))
get-set (x ∷ xs) (suc k) (suc l) y h = get-set xs k l y (omega arith) ∙ sym (ap (λ t. cond t (Some y) (slice_get xs l)) (eqb-suc-suc k l))

abbrev before_of : Option BlockFlow → List ℕ
before_of q = elim q [ None ↦ [] | Some w ↦ w.predecessors.items ]

abbrev behind_of : Option BlockFlow → List ℕ
behind_of q = elim q [ None ↦ [] | Some w ↦ w.successors.items ]

abbrev leaving_of : Option BlockFlow → List ℕ
leaving_of q = elim q [ None ↦ [] | Some w ↦ w.terminators.items ]

-- a block that isn't there
pub note-past : (flow : List BlockFlow) (next at : ℕ) → length flow ≤ next → Notes flow flow next at
note-past flow next at past = record { predecessors = λ x h. go x h (nat_eq next x) refl; successors = λ b. refl; terminators = λ b. refl; blocks = refl }
  where
    go : (x : ℕ) → x < length flow → (t : Bool) → nat_eq next x ≡ t → predecessors flow x ≡ cond (nat_eq next x) (predecessors flow x ++ at ∷ []) (predecessors flow x)
    go x h true e = let same : next ≡ x = eqb-true next x e in absurd (omega (arith, same, past, h))
    go x h false e = sym (ap (λ t. cond t (predecessors flow x ++ at ∷ []) (predecessors flow x)) e)

-- a block that is there
pub note-row : (flow : List BlockFlow) (next at : ℕ) (w v : BlockFlow) → next < length flow → w ≡ get_or flow next w → v.predecessors.items ≡ w.predecessors.items ++ at ∷ [] → v.successors ≡ w.successors → v.terminators ≡ w.terminators → Notes flow (set flow next v) next at
note-row flow next at w v within e added same kept = record {
  predecessors = λ x h. ap before_of (get-set flow next x v within) ∙ before x (nat_eq next x) refl;
  successors = λ b. ap behind_of (get-set flow next b v within) ∙ behind b (nat_eq next b) refl;
  terminators = λ b. ap leaving_of (get-set flow next b v within) ∙ leaving b (nat_eq next b) refl;
  blocks = length-set flow next v;
}
  where
    own : slice_get flow next ≡ Some w
    own = slice_get-get_or flow next w within ∙ ap Some (sym e)

    before : (x : ℕ) (t : Bool) → nat_eq next x ≡ t → before_of (cond (nat_eq next x) (Some v) (slice_get flow x)) ≡ cond (nat_eq next x) (predecessors flow x ++ at ∷ []) (predecessors flow x)
    before x true f = ap (λ t. before_of (cond t (Some v) (slice_get flow x))) f ∙ added ∙ ap (λ xs. xs ++ at ∷ []) (sym (ap before_of (ap (slice_get flow) (sym (eqb-true next x f)) ∙ own))) ∙ sym (ap (λ t. cond t (predecessors flow x ++ at ∷ []) (predecessors flow x)) f)
    before x false f = ap (λ t. before_of (cond t (Some v) (slice_get flow x))) f ∙ sym (ap (λ t. cond t (predecessors flow x ++ at ∷ []) (predecessors flow x)) f)

    behind : (x : ℕ) (t : Bool) → nat_eq next x ≡ t → behind_of (cond (nat_eq next x) (Some v) (slice_get flow x)) ≡ successors flow x
    behind x true f = ap (λ t. behind_of (cond t (Some v) (slice_get flow x))) f ∙ ap (λ l. l.items) same ∙ sym (ap behind_of (ap (slice_get flow) (sym (eqb-true next x f)) ∙ own))
    behind x false f = ap (λ t. behind_of (cond t (Some v) (slice_get flow x))) f

    leaving : (x : ℕ) (t : Bool) → nat_eq next x ≡ t → leaving_of (cond (nat_eq next x) (Some v) (slice_get flow x)) ≡ terminators flow x
    leaving x true f = ap (λ t. leaving_of (cond t (Some v) (slice_get flow x))) f ∙ ap (λ l. l.items) kept ∙ sym (ap leaving_of (ap (slice_get flow) (sym (eqb-true next x f)) ∙ own))
    leaving x false f = ap (λ t. leaving_of (cond t (Some v) (slice_get flow x))) f

-- members

pub or-assoc : (t u w : Bool) → (t || u) || w ≡ t || (u || w)
or-assoc true u w = refl
or-assoc false u w = refl

pub or-false : (t : Bool) → t || false ≡ t
or-false true = refl
or-false false = refl

has-or : (x y : ℕ) (xs : List ℕ) → has x (y ∷ xs) ≡ nat_eq y x || has x xs
has-or x y xs = go (nat_eq y x)
  where
    go : (t : Bool) → cond t true (has x xs) ≡ t || has x xs
    go true = refl
    go false = refl

pub has-both : (x : ℕ) (xs ys : List ℕ) → has x (xs ++ ys) ≡ has x xs || has x ys
has-both x [] ys = refl
has-both x (y ∷ xs) ys = has-or x y (xs ++ ys) ∙ ap (λ t. nat_eq y x || t) (has-both x xs ys) ∙ sym (or-assoc (nat_eq y x) (has x xs) (has x ys)) ∙ ap (λ t. t || has x ys) (sym (has-or x y xs))

has-one : (x y : ℕ) → has x (y ∷ []) ≡ nat_eq y x
has-one x y = has-or x y [] ∙ or-false (nat_eq y x)

has-more : (x : ℕ) (xs : List ℕ) (k : ℕ) → k < length xs → has x (take (k + 1) xs) ≡ has x (take k xs) || nat_eq (get_or xs k 0) x
has-more x xs k h = ap (λ n. has x (take n xs)) (add-one k) ∙ go xs k h
  where
    go : (xs : List ℕ) (k : ℕ) → k < length xs → has x (take (suc k) xs) ≡ has x (take k xs) || nat_eq (get_or xs k 0) x
    go [] k h = absurd (omega arith)
    go (y ∷ xs) zero h = has-one x y
    go (y ∷ xs) (suc k) h = has-or x y (take (suc k) xs) ∙ ap (λ t. nat_eq y x || t) (go xs k (omega arith)) ∙ sym (or-assoc (nat_eq y x) (has x (take k xs)) (nat_eq (get_or xs k 0) x)) ∙ ap (λ t. t || nat_eq (get_or xs k 0) x) (sym (has-or x y (take k xs)))

pub has-any : (x : ℕ) (xs : List ℕ) → has x xs ≡ list_any (λ y. nat_eq y x) xs
has-any x [] = refl
has-any x (y ∷ xs) = has-or x y xs ∙ ap (λ t. nat_eq y x || t) (has-any x xs)

pub push-has : (xs : List ℕ) (x y : ℕ) → has y (xs ++ x ∷ []) ≡ has y xs || nat_eq x y
push-has xs x y = has-both y xs (x ∷ []) ∙ ap (λ t. has y xs || t) (has-one y x)

pub kept-has : (xs : List ℕ) (x y : ℕ) → list_any (λ z. nat_eq z x) xs ≡ true → has y xs ≡ has y xs || nat_eq x y
kept-has xs x y e = go (nat_eq x y) refl
  where
    or-true : (t : Bool) → t || true ≡ true
    or-true true = refl
    or-true false = refl

    go : (t : Bool) → nat_eq x y ≡ t → has y xs ≡ has y xs || nat_eq x y
    go true f = ap (λ k. has k xs) (sym (eqb-true x y f)) ∙ has-any x xs ∙ e ∙ sym (or-true (has y xs)) ∙ ap (λ t. has y xs || t) (sym f)
    go false f = sym (or-false (has y xs)) ∙ ap (λ t. has y xs || t) (sym f)

take-past : {X : Type 0} (xs : List X) (k : ℕ) → length xs ≤ k → take k xs ≡ xs
take-past [] zero h = refl
take-past [] (suc k) h = refl
take-past (x ∷ xs) zero h = absurd (omega arith)
take-past (x ∷ xs) (suc k) h = ap (λ ys. x ∷ ys) (take-past xs k (omega arith))

-- noting a block at several

pub notes-none : (flow : List BlockFlow) (nexts : List ℕ) (at : ℕ) → NotesAll flow flow (take 0 nexts) at
notes-none flow nexts at = record { predecessors = λ x b h. sym (go (has b (predecessors flow x)) (nat_eq at b)); successors = λ b. refl; terminators = λ b. refl; blocks = refl }
  where
    go : (t u : Bool) → t || u && false ≡ t
    go true u = refl
    go false true = refl
    go false false = refl

pub notes-more : (old mid new : List BlockFlow) (nexts : List ℕ) (k at : ℕ) → k < length nexts → NotesAll old mid (take k nexts) at → Notes mid new (get_or nexts k 0) at → NotesAll old new (take (k + 1) nexts) at
notes-more old mid new nexts k at h so now = record {
  predecessors = λ x b w. ap (has b) (now.predecessors x (subst (λ n. x < n) (sym so.blocks) w)) ∙ by x b w (nat_eq (get_or nexts k 0) x) refl;
  successors = λ b. now.successors b ∙ so.successors b;
  terminators = λ b. now.terminators b ∙ so.terminators b;
  blocks = now.blocks ∙ so.blocks;
}
  where
    yes : (p u t : Bool) → (p || (u && t)) || u ≡ p || (u && (t || true))
    yes true u t = refl
    yes false true true = refl
    yes false true false = refl
    yes false false t = refl

    no : (p u t : Bool) → p || (u && t) ≡ p || (u && (t || false))
    no p u t = ap (λ q. p || (u && q)) (sym (or-false t))

    by : (x b : ℕ) → x < length old → (t : Bool) → nat_eq (get_or nexts k 0) x ≡ t → has b (cond (nat_eq (get_or nexts k 0) x) (predecessors mid x ++ at ∷ []) (predecessors mid x)) ≡ has b (predecessors old x) || (nat_eq at b && has x (take (k + 1) nexts))
    by x b w true f =
        ap (λ q. has b (cond q (predecessors mid x ++ at ∷ []) (predecessors mid x))) f ∙ has-both b (predecessors mid x) (at ∷ []) ∙ ap (λ q. has b (predecessors mid x) || q) (has-one b at) ∙ ap (λ q. q || nat_eq at b) (so.predecessors x b w) ∙ yes (has b (predecessors old x)) (nat_eq at b) (has x (take k nexts)) ∙ ap (λ q. has b (predecessors old x) || (nat_eq at b && q)) (ap (λ q. has x (take k nexts) || q) (sym f) ∙ sym (has-more x nexts k h))
    by x b w false f =
        ap (λ q. has b (cond q (predecessors mid x ++ at ∷ []) (predecessors mid x))) f ∙ so.predecessors x b w ∙ no (has b (predecessors old x)) (nat_eq at b) (has x (take k nexts)) ∙ ap (λ q. has b (predecessors old x) || (nat_eq at b && q)) (ap (λ q. has x (take k nexts) || q) (sym f) ∙ sym (has-more x nexts k h))

pub notes-all : (old new : List BlockFlow) (nexts : List ℕ) (k at : ℕ) → length nexts ≤ k → NotesAll old new (take k nexts) at → NotesAll old new nexts at
notes-all old new nexts k at h so = subst (λ xs. NotesAll old new xs at) (take-past nexts k h) so

-- edges

edges-split : (place : ℕ → Option ℕ) (es : List Edge) (k : ℕ) (d : Edge) (x : ℕ) → k < length es → has x (edge_places place (take (suc k) es)) ≡ has x (edge_places place (take k es)) || has x (edge_places place (get_or es k d ∷ []))
edges-split place [] k d x h = absurd (omega arith)
edges-split place (e ∷ es) zero d x h = refl
edges-split place (e ∷ es) (suc k) d x h = go (place e.block) (edges-split place es k d x (omega arith))
  where
    go : (q : Option ℕ) → has x (edge_places place (take (suc k) es)) ≡ has x (edge_places place (take k es)) || has x (edge_places place (get_or es k d ∷ []))
        → has x (cons_option q (edge_places place (take (suc k) es))) ≡ has x (cons_option q (edge_places place (take k es))) || has x (edge_places place (get_or es k d ∷ []))
    go None ih = ih
    go (Some y) ih = has-or x y (edge_places place (take (suc k) es)) ∙ ap (λ t. nat_eq y x || t) ih ∙ sym (or-assoc (nat_eq y x) (has x (edge_places place (take k es))) (has x (edge_places place (get_or es k d ∷ [])))) ∙ ap (λ t. t || has x (edge_places place (get_or es k d ∷ []))) (sym (has-or x y (edge_places place (take k es))))

pub edges-more : (place : ℕ → Option ℕ) (es : List Edge) (k : ℕ) (d : Edge) (x : ℕ) (t : Bool) → k < length es → t ≡ has x (edge_places place (take k es)) → t || has x (edge_places place (get_or es k d ∷ [])) ≡ has x (edge_places place (take (k + 1) es))
edges-more place es k d x t h e = ap (λ u. u || has x (edge_places place (get_or es k d ∷ []))) e ∙ sym (edges-split place es k d x h) ∙ ap (λ n. has x (edge_places place (take n es))) (sym (add-one k))

pub edges-all : (place : ℕ → Option ℕ) (es : List Edge) (k x : ℕ) → length es ≤ k → has x (edge_places place (take k es)) ≡ has x (edge_places place es)
edges-all place es k x h = ap (λ ds. has x (edge_places place ds)) (take-past es k h)

-- the ways out of one more block

get-push : {X : Type 0} (xs : List X) (y : X) (b : ℕ) → slice_get (xs ++ y ∷ []) b ≡ cond (nat_eq (length xs) b) (Some y) (slice_get xs b)
get-push [] y zero = refl
get-push [] y (suc b) = sym (ap (λ t. cond t (Some y) None) (eqb-zero-suc b))
get-push (x ∷ xs) y zero = sym (ap (λ t. cond t (Some y) (Some x)) (eqb-suc-zero (length xs)))
get-push (x ∷ xs) y (suc b) = get-push xs y b ∙ sym (ap (λ t. cond t (Some y) (slice_get xs b)) (eqb-suc-suc (length xs) b))

pub out-none : (t : Target) (place : ℕ → Option ℕ) → AreOut t place [] []
out-none t place = record { predecessors = λ b. refl; successors = λ b x. refl; terminators = λ b. refl; blocks = refl }

abbrev exits_of_some : (ℕ → Option ℕ) → Option Block → List ℕ
exits_of_some place q = elim q [ None ↦ [] | Some c ↦ edge_places place c.successors ]

abbrev ids_of_some : Target → Option Block → List ℕ
ids_of_some t q = elim q [ None ↦ [] | Some c ↦ terminator_ids t c.instrs ]

length-one : {X : Type 0} (xs : List X) (y : X) → length (xs ++ y ∷ []) ≡ suc (length xs)
length-one [] y = refl
length-one (x ∷ xs) y = ap (λ n. suc n) (length-one xs y)

pub out-push : (t : Target) (place : ℕ → Option ℕ) (bs : List Block) (flow : List BlockFlow) (c : Block) (w : BlockFlow) → AreOut t place bs flow → w.predecessors.items ≡ [] → ((x : ℕ) → has x w.successors.items ≡ has x (edge_places place c.successors)) → w.terminators.items ≡ terminator_ids t c.instrs → AreOut t place (bs ++ c ∷ []) (flow ++ w ∷ [])
out-push t place bs flow c w so none exits ids = record {
  predecessors = λ b. ap before_of (get-push flow w b) ∙ before b (nat_eq (length flow) b);
  successors = λ b x. ap (λ q. has x (behind_of q)) (get-push flow w b) ∙ behind b x (nat_eq (length flow) b) ∙ sym (ap (λ q. has x (exits_of_some place q)) (get-push bs c b ∙ ap (λ n. cond (nat_eq n b) (Some c) (slice_get bs b)) (sym so.blocks)));
  terminators = λ b. ap leaving_of (get-push flow w b) ∙ leaving b (nat_eq (length flow) b) ∙ sym (ap (ids_of_some t) (get-push bs c b ∙ ap (λ n. cond (nat_eq n b) (Some c) (slice_get bs b)) (sym so.blocks)));
  blocks = length-one flow w ∙ ap (λ n. suc n) so.blocks ∙ sym (length-one bs c);
}
  where
    before : (b : ℕ) (u : Bool) → before_of (cond u (Some w) (slice_get flow b)) ≡ []
    before b true = none
    before b false = so.predecessors b

    behind : (b x : ℕ) (u : Bool) → has x (behind_of (cond u (Some w) (slice_get flow b))) ≡ has x (exits_of_some place (cond u (Some c) (slice_get bs b)))
    behind b x true = exits x
    behind b x false = so.successors b x

    leaving : (b : ℕ) (u : Bool) → leaving_of (cond u (Some w) (slice_get flow b)) ≡ ids_of_some t (cond u (Some c) (slice_get bs b))
    leaving b true = ids
    leaving b false = so.terminators b

take-next : {X : Type 0} (xs : List X) (k : ℕ) (x : X) → k < length xs → x ≡ get_or xs k x → take (suc k) xs ≡ take k xs ++ x ∷ []
take-next [] k x h e = absurd (omega arith)
take-next (y ∷ xs) zero x h e = ap (λ z. z ∷ []) (sym e)
take-next (y ∷ xs) (suc k) x h e = ap (λ ys. y ∷ ys) (take-next xs k x (omega arith) e)

take-one : {X : Type 0} (xs : List X) (k : ℕ) (x : X) → k < length xs → x ≡ get_or xs k x → take (k + 1) xs ≡ take k xs ++ x ∷ []
take-one xs k x h e = ap (λ n. take n xs) (add-one k) ∙ take-next xs k x h e

pub out-more : (t : Target) (place : ℕ → Option ℕ) (bs : List Block) (k : ℕ) (flow : List BlockFlow) (c : Block) (w : BlockFlow) → k < length bs → c ≡ get_or bs k c → AreOut t place (take k bs) flow → w.predecessors.items ≡ [] → ((x : ℕ) → has x w.successors.items ≡ has x (edge_places place c.successors)) → w.terminators.items ≡ terminator_ids t c.instrs → AreOut t place (take (k + 1) bs) (flow ++ w ∷ [])
out-more t place bs k flow c w h e so none exits ids = subst (λ cs. AreOut t place cs (flow ++ w ∷ [])) (sym (take-one bs k c h e)) (out-push t place (take k bs) flow c w so none exits ids)

pub out-all : (t : Target) (place : ℕ → Option ℕ) (bs : List Block) (k : ℕ) (flow : List BlockFlow) → length bs ≤ k → AreOut t place (take k bs) flow → AreOut t place bs flow
out-all t place bs k flow h so = subst (λ cs. AreOut t place cs flow) (take-past bs k h) so

-- the first blocks are noted at those behind them
pub record IsNoted (t : Target) (place : ℕ → Option ℕ) (bs : List Block) (flow : List BlockFlow) (k : ℕ) : Type 0 where
  pub predecessors : (x b : ℕ) → x < length bs → has b (predecessors flow x) ≡ nat_lt b k && has x (exits_at place bs b)
  pub successors : (b x : ℕ) → has x (successors flow b) ≡ has x (exits_at place bs b)
  pub terminators : (b : ℕ) → terminators flow b ≡ terminators_at t bs b
  pub blocks : length flow ≡ length bs

pub noted-none : (t : Target) (place : ℕ → Option ℕ) (bs : List Block) (flow : List BlockFlow) → AreOut t place bs flow → IsNoted t place bs flow 0
noted-none t place bs flow so = record {
  predecessors = λ x b h. ap (has b) (so.predecessors x) ∙ sym (ap (λ u. u && has x (exits_at place bs b)) (le-ltb b 0 (omega arith)));
  successors = so.successors;
  terminators = so.terminators;
  blocks = so.blocks;
}

pub noted-more : (t : Target) (place : ℕ → Option ℕ) (bs : List Block) (old new : List BlockFlow) (k : ℕ) → IsNoted t place bs old k → NotesAll old new (successors old k) k → IsNoted t place bs new (k + 1)
noted-more t place bs old new k so now = record {
  predecessors = λ x b h. now.predecessors x b (subst (λ n. x < n) (sym so.blocks) h) ∙ ap (λ u. u || (nat_eq k b && has x (successors old k))) (so.predecessors x b h) ∙ go x b (nat_eq k b) refl;
  successors = λ b x. ap (has x) (now.successors b) ∙ so.successors b x;
  terminators = λ b. now.terminators b ∙ so.terminators b;
  blocks = now.blocks ∙ so.blocks;
}
  where
    same : (x b : ℕ) → k ≡ b → (nat_lt b k && has x (exits_at place bs b)) || has x (successors old k) ≡ nat_lt b (k + 1) && has x (exits_at place bs b)
    same x b e =
        ap (λ u. (u && has x (exits_at place bs b)) || has x (successors old k)) (le-ltb b k (omega arith)) ∙ so.successors k x ∙ ap (λ n. has x (exits_at place bs n)) e ∙ sym (ap (λ u. u && has x (exits_at place bs b)) (lt-ltb b (k + 1) (omega arith)))

    other : (x b : ℕ) → nat_eq k b ≡ false → nat_lt b k ≡ nat_lt b (k + 1)
    other x b e = ⊎_elim (λ h. lt-ltb b k h ∙ sym (lt-ltb b (k + 1) (omega arith))) (λ h. le-ltb b k h ∙ sym (le-ltb b (k + 1) (let z = eqb-false k b e in omega (arith, z)))) (cases_lt b k)

    go : (x b : ℕ) (u : Bool) → nat_eq k b ≡ u → (nat_lt b k && has x (exits_at place bs b)) || (nat_eq k b && has x (successors old k)) ≡ nat_lt b (k + 1) && has x (exits_at place bs b)
    go x b true f = ap (λ u. (nat_lt b k && has x (exits_at place bs b)) || (u && has x (successors old k))) f ∙ same x b (eqb-true k b f)
    go x b false f = ap (λ u. (nat_lt b k && has x (exits_at place bs b)) || (u && has x (successors old k))) f ∙ or-false (nat_lt b k && has x (exits_at place bs b)) ∙ ap (λ u. u && has x (exits_at place bs b)) (other x b f)

pub noted-all : (t : Target) (place : ℕ → Option ℕ) (bs : List Block) (flow : List BlockFlow) (k : ℕ) → length bs ≤ k → IsNoted t place bs flow k → AreWays t place bs flow
noted-all t place bs flow k h so = record {
  predecessors = λ x b w. so.predecessors x b w ∙ ⊎_elim (λ lt. ap (λ u. u && has x (exits_at place bs b)) (lt-ltb b k lt)) (λ ge. ap (λ u. u && has x (exits_at place bs b)) (le-ltb b k ge) ∙ sym (ap (λ q. has x (exits_of_some place q)) (slice_get_past bs b (omega arith)))) (cases_lt b k);
  successors = so.successors;
  terminators = so.terminators;
  blocks = so.blocks;
}
