-- Causes that are carried over to an edited code: what they rest on, and which of them are right there.
use Rattle.std.proofs.Common.{◌≡◌, ◌⊎◌, ℕ, Bool, true, false, cond, List, [], ◌∷◌, ◌++◌, Option, None, Some, refl, sym, ap, ◌∙◌, subst, inl, inr}
use Rattle.mir_meaning.specs.Paths.{Among, Step, Code, steps_of, exits_of, Use, Unused, Certain, Into, use_of, is_written, is_present, IsMatched}
use Rattle.live_lanes.specs.declared.row.Cause.{Cause}
use Rattle.live_lanes.specs.declared.row.Cause.TheVariants as causes
use Rattle.live_lanes.specs.Graph.{Causes, is_live, writes_in, Founded, by_reading, by_move, by_exit, by_end, by_phi, IsGrown}
use Rattle.live_lanes.specs.Table.{Numbers}
use Rattle.live_lanes.specs.Entered.{IsNumbered}
use Rattle.live_lanes.specs.Laws.{AllMatched}
use Rattle.live_lanes.proofs.Basics.{among-append}
use Rattle.edit_laws.specs.Chains.{Node, Notes, cause_at, Ends, at_none, at_next}
use Rattle.edit_laws.specs.Reasons.{IsReason, for_reading, for_move, for_exit, for_end, for_phi, counts, Touched, IsNew, IsEditOf, Begins, at_start, at_write, IsKept, IsRenewed, IsCarried, carried, renewed, AreCarried, AreListed}
use Rattle.edit_laws.specs.Update.{Holds, holds_dead, holds_reading, holds_exit, holds_end}
use Rattle.edit_laws.proofs.Begun.{find_at, find-is, one-split, one-start, one-number, writes-it}
use Rattle.edit_laws.proofs.Counterparts.{At, same-piece, Pair, pair-of, pair-to, at-end}

not-both : {A : Type 0} (u : Bool) → u ≡ true → u ≡ false → A
not-both u f g = absurd (let z : true ≡ false = sym f ∙ g in cc)

pub founded-cause : {code : Code} {why : Causes} {l b n : ℕ} → Founded code why l b n → is_live (why l b n) ≡ true
founded-cause (by_reading before s rest e c u) = ap is_live c
founded-cause (by_move before s rest e c u w f) = ap is_live c
founded-cause (by_exit before s rest e c t m f) = ap is_live c
founded-cause (by_end c m f) = ap is_live c
founded-cause (by_phi c m) = ap is_live c

pub reason-live : {code : Code} {l b n : ℕ} {c : Cause} {o : Option Node} → IsReason code l b n c o → is_live c ≡ true
reason-live (for_reading before s rest e u) = refl
reason-live (for_move before s rest e u w) = refl
reason-live (for_exit before s rest e t m) = refl
reason-live (for_end m) = refl
reason-live (for_phi m) = refl

pub reason-moves : {code : Code} {l b n m : ℕ} {c d : Cause} {o q : Option Node} → IsReason code l b n c o → n ≡ m → c ≡ d → o ≡ q → IsReason code l b m d q
reason-moves {code = code} {l = l} {b = b} {n = n} {m = m} {d = d} {o = o} {q = q} x e f g =
    let y = subst (λ k. IsReason code l b k d o) e (subst (λ k. IsReason code l b n k o) f x) in
    subst (λ k. IsReason code l b m d k) g y

pub matched-written : (s : Step) (l a : ℕ) → IsMatched s → use_of l s ≡ Into a → is_written a s ≡ true
matched-written s l a h u = ap is_present (h.filled l a u).1

-- what a cause of before rests on, as a piece of the edited code, if it still begins there

abbrev pub to : ℕ → List Step → Step → Use → Option Node
to b before r Unused = None
to b before r Certain = None
to b before r (Into a) = cond (is_written a r) (Some (a, b, writes_in a (before ++ r ∷ []))) None

abbrev pub moved : ℕ → ℕ → Option (List Step × Step) → Option (List Step × Step) → Option Node
moved l b None y = None
moved l b (Some x) None = None
moved l b (Some x) (Some y) = to b y.0 y.1 (use_of l x.1)

abbrev pub rest_of : Code → Code → ℕ → ℕ → Cause → Option Node
rest_of old new l b causes.None = None
rest_of old new l b (causes.Reading id) = moved l b (find_at [] id (steps_of old b)) (find_at [] id (steps_of new b))
rest_of old new l b (causes.Follower x) = Some (l, x, 0)
rest_of old new l b causes.Phi = None

-- where it is live
abbrev pub alive : Causes → Option Node → Option Node
alive why None = None
alive why (Some m) = cond (cause_at why m) (Some m) None

abbrev pub first_notes : Code → Code → Causes → Notes
first_notes old new why n = alive why (rest_of old new n.0 n.1 (why n.0 n.1 n.2))

alive-only : (why : Causes) (o : Option Node) (m : Node) → alive why o ≡ Some m → cause_at why m ≡ true
alive-only why None m e = absurd (cc)
alive-only why (Some k) m e = go (cause_at why k) refl e
  where
    go : (u : Bool) → cause_at why k ≡ u → cond u (Some k) None ≡ Some m → cause_at why m ≡ true
    go true h g = let same : k ≡ m = cc in ap (cause_at why) (sym same) ∙ h
    go false h g = absurd (cc)

-- pieces that are carried over

pub live-same : {touched : Touched} {code : Code} {l b : ℕ} {c d : Cause} {o : Option ℕ} → IsCarried touched code l b c d o → is_live d ≡ true → d ≡ c
live-same (carried e) live = e
live-same (renewed {d = d} dead r) live = not-both (is_live d) live dead

block-same : {touched : Touched} {code : Code} {l b : ℕ} {c d : Cause} {o : Option ℕ} → IsCarried touched code l b c d o → o ≡ None → d ≡ c
block-same (carried e) g = e
block-same (renewed {id = id} dead r) g = absurd (let z : Some id ≡ None = g in cc)

live-or-renewed : {touched : Touched} {code : Code} {l b : ℕ} {c d : Cause} {o : Option ℕ} → IsCarried touched code l b c d o → is_live c ≡ true → (is_live d ≡ true) ⊎ ((id : ℕ) × (o ≡ Some id) × IsRenewed touched code l b id)
live-or-renewed (carried e) live = inl (ap is_live e ∙ live)
live-or-renewed (renewed {id = id} dead r) live = inr (id, refl, r)

module _ (touched : Touched) (old new : Code) (slots slots' : Numbers) (was why : Causes) (grown : IsGrown old was) (numbered : IsNumbered old slots) (numbered' : IsNumbered new slots') (matched : AllMatched new) (edit : IsEditOf touched old new) (kept : AreCarried touched old new was why) (list : List Node) (listed : AreListed touched new list) where
  abbrev on : Notes
  on = first_notes old new why

  abbrev PairAt : ℕ → Step → Step → Type 0
  PairAt b s r = Pair touched old new slots' numbered' edit list listed b s r

  abbrev Listed : ℕ → ℕ → ℕ → Type 0
  Listed l b n = Among {A = Node} (l, b, n) list

  pair : (b : ℕ) (before : List Step) (s : Step) (rest : List Step) → steps_of old b ≡ before ++ s ∷ rest → (r : Step) × PairAt b s r
  pair b before s rest e = pair-of touched old new slots' numbered' edit list listed b s (subst (Among s) (sym e) (among-append s before rest))

  -- a live piece has the cause of before
  as-was : (l b m n : ℕ) (o : Option ℕ) → Begins old l b m o → Begins new l b n o → is_live (why l b n) ≡ true → why l b n ≡ was l b m
  as-was l b m n o x y live = live-same (kept.kept l b m n o x y) live

  -- so has one that begins with its block
  first-same : (l b : ℕ) → why l b 0 ≡ was l b 0
  first-same l b = block-same (kept.kept l b 0 0 None at_start at_start) refl

  pub first-live : (l b : ℕ) → is_live (was l b 0) ≡ true → is_live (why l b 0) ≡ true
  first-live l b live = ap is_live (first-same l b) ∙ live

  begun-listed : {l b n : ℕ} {o : Option ℕ} → Begins new l b n o → (id : ℕ) → o ≡ Some id → touched l b id ≡ true → Listed l b n
  begun-listed at_start id e t = absurd (let z : None ≡ Some id = e in cc)
  begun-listed {l = l} {b = b} (at_write before s rest g w) id e t =
      let z : Some s.id ≡ Some id = e in
      let i : s.id ≡ id = cc in
      (listed l b before s rest g (ap (touched l b) i ∙ t)).1

  -- one that was live is so still, or is listed
  carried-live : (l b m n : ℕ) (o : Option ℕ) → Begins old l b m o → Begins new l b n o → is_live (was l b m) ≡ true → (is_live (why l b n) ≡ true) ⊎ Listed l b n
  carried-live l b m n o x y live = go (live-or-renewed (kept.kept l b m n o x y) live)
    where
      go : (is_live (why l b n) ≡ true) ⊎ ((id : ℕ) × (o ≡ Some id) × IsRenewed touched new l b id) → (is_live (why l b n) ≡ true) ⊎ Listed l b n
      go (inl h) = inl h
      go (inr r) = inr (begun-listed y r.0 r.1 r.2.written)

  -- the note where the cause is a reading of an instruction that stays
  note-reading : (l b m : ℕ) (s r : Step) (p : PairAt b s r) → why l b m ≡ causes.Reading s.id → on (l, b, m) ≡ alive why (to b p.before' r (use_of l s))
  note-reading l b m s r p c =
      let x = find-is slots 0 [] (steps_of old b) p.before s p.rest (numbered b) p.e in
      let y = find-is slots' 0 [] (steps_of new b) p.before' r p.rest' (numbered' b) p.e' in
      ap (alive why) (ap (rest_of old new l b) c ∙ ((λ k. moved l b (x k) (find_at [] (p.like.id k) (steps_of new b))) ∙ ap (moved l b (Some (p.before, s))) y))

  note-follower : (l b m x : ℕ) → why l b m ≡ causes.Follower x → on (l, b, m) ≡ alive why (Some (l, x, 0))
  note-follower l b m x c = ap (λ z. alive why (rest_of old new l b z)) c

  note-phi : (l b m : ℕ) → why l b m ≡ causes.Phi → on (l, b, m) ≡ None
  note-phi l b m c = ap (λ z. alive why (rest_of old new l b z)) c

  note-dead : (l b m : ℕ) → is_live (why l b m) ≡ false → on (l, b, m) ≡ None
  note-dead l b m d = go (why l b m) refl d
    where
      go : (c : Cause) → why l b m ≡ c → is_live c ≡ false → on (l, b, m) ≡ None
      go causes.None e f = ap (λ z. alive why (rest_of old new l b z)) e
      go (causes.Reading id) e f = absurd (cc)
      go (causes.Follower x) e f = absurd (cc)
      go causes.Phi e f = absurd (cc)

  note-certain : (l b m : ℕ) (s r : Step) (p : PairAt b s r) → why l b m ≡ causes.Reading s.id → use_of l s ≡ Certain → on (l, b, m) ≡ None
  note-certain l b m s r p c u = note-reading l b m s r p c ∙ ap (λ z. alive why (to b p.before' r z)) u

  note-move : (l b m a : ℕ) (s r : Step) (p : PairAt b s r) → why l b m ≡ causes.Reading s.id → use_of l s ≡ Into a → (v : Bool) → is_written a r ≡ v → on (l, b, m) ≡ alive why (cond v (Some (a, b, writes_in a (p.before' ++ r ∷ []))) None)
  note-move l b m a s r p c u v w = note-reading l b m s r p c ∙ (ap (λ z. alive why (to b p.before' r z)) u ∙ ap (λ z. alive why (cond z (Some (a, b, writes_in a (p.before' ++ r ∷ []))) None)) w)

  alive-is : (m : Node) (u : Bool) → cause_at why m ≡ u → alive why (Some m) ≡ cond u (Some m) None
  alive-is m u e = ap (λ z. cond z (Some m) None) e

  -- a chain of before, over the edited code

  -- along a note, if it is of a live piece
  ends-next : (n m : Node) → on n ≡ alive why (Some m) → (cause_at why m ≡ true → Ends on m) → Ends on n
  ends-next n m e more = go (cause_at why m) refl
    where
      go : (u : Bool) → cause_at why m ≡ u → Ends on n
      go true h = at_next (e ∙ alive-is m true h) (more h)
      go false h = at_none (e ∙ alive-is m false h)

  chained : {l b n : ℕ} → Founded old was l b n → (m : ℕ) (o : Option ℕ) → Begins old l b n o → Begins new l b m o → is_live (why l b m) ≡ true → Ends on (l, b, m)
  chained (by_reading {l = l} {b = b} before s rest e c u) m o x y live =
      let p = pair b before s rest e in
      at_none (note-certain l b m s p.0 p.1 (as-was l b (writes_in l before) m o x y live ∙ c) u)
  chained (by_move {l = l} {a = a} {b = b} before s rest e c u w f) m o x y live = go (pair b before s rest e) (chained f)
    where
      cause : why l b m ≡ causes.Reading s.id
      cause = as-was l b (writes_in l before) m o x y live ∙ c

      go : (r : Step) × PairAt b s r → ((k : ℕ) (q : Option ℕ) → Begins old a b (writes_in a (before ++ s ∷ [])) q → Begins new a b k q → is_live (why a b k) ≡ true → Ends on (a, b, k)) → Ends on (l, b, m)
      go p ih = stays (is_written a p.0) refl
        where
          stays : (v : Bool) → is_written a p.0 ≡ v → Ends on (l, b, m)
          stays false v = at_none (note-move l b m a s p.0 p.1 cause u false v)
          stays true v =
              let k : ℕ = writes_in a (p.1.before' ++ p.0 ∷ []) in
              let x' : Begins old a b (writes_in a (before ++ s ∷ [])) (Some s.id) = at_write before s rest e w in
              let y' : Begins new a b k (Some s.id) = subst (λ i. Begins new a b k (Some i)) (sym p.1.like.id) (at_write p.1.before' p.0 p.1.rest' p.1.e' v) in
              ends-next (l, b, m) (a, b, k) (note-move l b m a s p.0 p.1 cause u true v) (λ h. ih k (Some s.id) x' y' h)
  chained (by_exit {l = l} {b = b} {x = z} before s rest e c t a f) m o x y live =
      ends-next (l, b, m) (l, z, 0) (note-follower l b m z (as-was l b (writes_in l (before ++ s ∷ [])) m o x y live ∙ c)) (λ h. chained f 0 None at_start at_start h)
  chained (by_end {l = l} {b = b} {x = z} c a f) m o x y live =
      ends-next (l, b, m) (l, z, 0) (note-follower l b m z (as-was l b (writes_in l (steps_of old b)) m o x y live ∙ c)) (λ h. chained f 0 None at_start at_start h)
  chained (by_phi {l = l} {b = b} c a) m o x y live = at_none (note-phi l b m (as-was l b (writes_in l (steps_of old b)) m o x y live ∙ c))

  was-live : (l b n : ℕ) (k : IsKept old new l b n) → is_live (why l b n) ≡ true → is_live (was l b k.number) ≡ true
  was-live l b n k live = ap is_live (sym (as-was l b k.number n k.start k.before k.after live)) ∙ live

  pub all-chained : (n : Node) → Ends on n
  all-chained n = go (cause_at why n) refl
    where
      go : (u : Bool) → cause_at why n ≡ u → Ends on n
      go false d = at_none (note-dead n.0 n.1 n.2 d)
      go true live = let k = kept.live n.0 n.1 n.2 live in chained (grown.founded n.0 n.1 k.number (was-live n.0 n.1 n.2 k live)) n.2 k.start k.before k.after live

  -- what is noted is live
  pub all-live : (n m : Node) → on n ≡ Some m → cause_at why m ≡ true
  all-live n m e = alive-only why (rest_of old new n.0 n.1 (why n.0 n.1 n.2)) m e

  -- a cause of before is right in the edited code, if its instruction isn't touched at the lane and reads the same piece

  abbrev RightHere : ℕ → ℕ → ℕ → Type 0
  RightHere l b m = IsReason new l b m (why l b m) (on (l, b, m))

  right-certain : (l b m : ℕ) (s r : Step) (p : PairAt b s r) → why l b m ≡ causes.Reading s.id → use_of l s ≡ Certain → m ≡ writes_in l p.before' → touched l b r.id ≡ false → RightHere l b m
  right-certain l b m s r p c u same t =
      reason-moves (for_reading p.before' r p.rest' p.e' (sym (p.like.used l t) ∙ u)) (sym same) (ap causes.Reading (sym p.like.id) ∙ sym c) (sym (note-certain l b m s r p c u))

  -- what an untouched lane is moved into is live still
  target-live : (l b a : ℕ) (s r : Step) (p : PairAt b s r) (k : ℕ) → use_of l r ≡ Into a → touched l b r.id ≡ false → (is_live (why a b k) ≡ true) ⊎ ((id : ℕ) × (Some s.id ≡ Some id) × IsRenewed touched new a b id) → is_live (why a b k) ≡ true
  target-live l b a s r p k v t (inl h) = h
  target-live l b a s r p k v t (inr x) =
      let z : Some s.id ≡ Some x.0 = x.1 in
      let i : s.id ≡ x.0 = cc in
      let j : r.id ≡ x.0 = sym p.like.id ∙ i in
      not-both (touched l b r.id) (ap (touched l b) j ∙ x.2.moved l p.before' r p.rest' p.e' j v) t

  pub stays-live : (l b a : ℕ) (s r : Step) (p : PairAt b s r) → is_written a s ≡ true → is_written a r ≡ true → use_of l r ≡ Into a → touched l b r.id ≡ false → is_live (was a b (writes_in a (p.before ++ s ∷ []))) ≡ true → is_live (why a b (writes_in a (p.before' ++ r ∷ []))) ≡ true
  stays-live l b a s r p ws w v t live =
      let k : ℕ = writes_in a (p.before' ++ r ∷ []) in
      let y : Begins new a b k (Some s.id) = subst (λ i. Begins new a b k (Some i)) (sym p.like.id) (at_write p.before' r p.rest' p.e' w) in
      target-live l b a s r p k v t (live-or-renewed (kept.kept a b (writes_in a (p.before ++ s ∷ [])) k (Some s.id) (at_write p.before s p.rest p.e ws) y) live)

  right-move : (l b m a : ℕ) (s r : Step) (p : PairAt b s r) → is_written a s ≡ true → is_live (was a b (writes_in a (p.before ++ s ∷ []))) ≡ true → why l b m ≡ causes.Reading s.id → use_of l s ≡ Into a → m ≡ writes_in l p.before' → touched l b r.id ≡ false → RightHere l b m
  right-move l b m a s r p ws live c u same t =
      let v : use_of l r ≡ Into a = sym (p.like.used l t) ∙ u in
      let w : is_written a r ≡ true = matched-written r l a (matched b r (subst (Among r) (sym p.e') (among-append r p.before' p.rest'))) v in
      let up = stays-live l b a s r p ws w v t live in
      reason-moves (for_move p.before' r p.rest' p.e' v w) (sym same) (ap causes.Reading (sym p.like.id) ∙ sym c) (sym (note-move l b m a s r p c u true w ∙ alive-is (a, b, writes_in a (p.before' ++ r ∷ [])) true up))

  right-exit : (l b m x : ℕ) (before : List Step) (r : Step) (rest : List Step) → steps_of new b ≡ before ++ r ∷ rest → is_live (why l x 0) ≡ true → why l b m ≡ causes.Follower x → r.leaves ≡ true → Among x (exits_of old b) → m ≡ writes_in l (before ++ r ∷ []) → RightHere l b m
  right-exit l b m x before r rest e live c t a same = reason-moves (for_exit before r rest e t (subst (Among x) (edit.exits b) a)) (sym same) (sym c) (sym (note-follower l b m x c ∙ alive-is (l, x, 0) true live))

  right-end : (l b m x : ℕ) → is_live (why l x 0) ≡ true → why l b m ≡ causes.Follower x → Among x (exits_of old b) → m ≡ writes_in l (steps_of new b) → RightHere l b m
  right-end l b m x live c a same = reason-moves (for_end (subst (Among x) (edit.exits b) a)) (sym same) (sym c) (sym (note-follower l b m x c ∙ alive-is (l, x, 0) true live))

  -- it is right, or its piece is listed

  at-entry : (l b n m : ℕ) (o : Option ℕ) (s r : Step) (p : PairAt b s r) → Begins old l b n o → Begins new l b m o → n ≡ writes_in l p.before → (m ≡ writes_in l p.before') ⊎ Listed l b m
  at-entry l b n m o s r p x y same = same-piece touched old new slots' numbered' edit list listed b l p.before p.before' (p.entry l) n m o x y same

  at-exit : (l b n m : ℕ) (o : Option ℕ) (s r : Step) (p : PairAt b s r) → Begins old l b n o → Begins new l b m o → n ≡ writes_in l (p.before ++ s ∷ []) → (m ≡ writes_in l (p.before' ++ r ∷ [])) ⊎ Listed l b m
  at-exit l b n m o s r p x y same = same-piece touched old new slots' numbered' edit list listed b l (p.before ++ s ∷ []) (p.before' ++ r ∷ []) (p.exit l) n m o x y same

  at-last : (l b n m : ℕ) (o : Option ℕ) → Begins old l b n o → Begins new l b m o → n ≡ writes_in l (steps_of old b) → (m ≡ writes_in l (steps_of new b)) ⊎ Listed l b m
  at-last l b n m o x y same =
      same-piece touched old new slots' numbered' edit list listed b l (steps_of old b) (steps_of new b) (at-end touched old new slots' numbered' edit list listed b l) n m o x y same

  -- the instruction stands where it was found
  found-at : (b : ℕ) (before : List Step) (s : Step) (rest : List Step) (r : Step) (p : PairAt b s r) → steps_of old b ≡ before ++ s ∷ rest → before ≡ p.before
  found-at b before s rest r p e = (one-split slots 0 (steps_of old b) before s rest p.before s p.rest (numbered b) e p.e refl).0

  entry-listed : (l b m : ℕ) (s r : Step) (p : PairAt b s r) → touched l b r.id ≡ true → m ≡ writes_in l p.before' → Listed l b m
  entry-listed l b m s r p t same = subst (Listed l b) (sym same) (listed l b p.before' r p.rest' p.e' t).0

  right-or-listed : {l b n : ℕ} → Founded old was l b n → (m : ℕ) (o : Option ℕ) → Begins old l b n o → Begins new l b m o → is_live (why l b m) ≡ true → RightHere l b m ⊎ Listed l b m
  right-or-listed (by_reading {l = l} {b = b} before s rest e c u) m o x y live = go (pair b before s rest e)
    where
      go : (r : Step) × PairAt b s r → RightHere l b m ⊎ Listed l b m
      go p = here (at-entry l b (writes_in l before) m o s p.0 p.1 x y (ap (writes_in l) (found-at b before s rest p.0 p.1 e)))
        where
          test : (v : Bool) → touched l b p.0.id ≡ v → m ≡ writes_in l p.1.before' → RightHere l b m ⊎ Listed l b m
          test true t same = inr (entry-listed l b m s p.0 p.1 t same)
          test false t same = inl (right-certain l b m s p.0 p.1 (as-was l b (writes_in l before) m o x y live ∙ c) u same t)

          here : (m ≡ writes_in l p.1.before') ⊎ Listed l b m → RightHere l b m ⊎ Listed l b m
          here (inl same) = test (touched l b p.0.id) refl same
          here (inr a) = inr a
  right-or-listed (by_move {l = l} {a = a} {b = b} before s rest e c u w f) m o x y live = go (pair b before s rest e)
    where
      go : (r : Step) × PairAt b s r → RightHere l b m ⊎ Listed l b m
      go p = here (at-entry l b (writes_in l before) m o s p.0 p.1 x y (ap (writes_in l) (found-at b before s rest p.0 p.1 e)))
        where
          test : (v : Bool) → touched l b p.0.id ≡ v → m ≡ writes_in l p.1.before' → RightHere l b m ⊎ Listed l b m
          test true t same = inr (entry-listed l b m s p.0 p.1 t same)
          test false t same = inl (right-move l b m a s p.0 p.1 w (ap (λ xs. is_live (was a b (writes_in a (xs ++ s ∷ [])))) (sym (found-at b before s rest p.0 p.1 e)) ∙ founded-cause f) (as-was l b (writes_in l before) m o x y live ∙ c) u same t)

          here : (m ≡ writes_in l p.1.before') ⊎ Listed l b m → RightHere l b m ⊎ Listed l b m
          here (inl same) = test (touched l b p.0.id) refl same
          here (inr k) = inr k
  right-or-listed (by_exit {l = l} {b = b} {x = z} before s rest e c t a f) m o x y live = go (pair b before s rest e)
    where
      go : (r : Step) × PairAt b s r → RightHere l b m ⊎ Listed l b m
      go p = here (at-exit l b (writes_in l (before ++ s ∷ [])) m o s p.0 p.1 x y (ap (λ xs. writes_in l (xs ++ s ∷ [])) (found-at b before s rest p.0 p.1 e)))
        where
          here : (m ≡ writes_in l (p.1.before' ++ p.0 ∷ [])) ⊎ Listed l b m → RightHere l b m ⊎ Listed l b m
          here (inl same) = inl (right-exit l b m z p.1.before' p.0 p.1.rest' p.1.e' (first-live l z (founded-cause f)) (as-was l b (writes_in l (before ++ s ∷ [])) m o x y live ∙ c) (sym p.1.like.leaves ∙ t) a same)
          here (inr k) = inr k
  right-or-listed (by_end {l = l} {b = b} {x = z} c a f) m o x y live = here (at-last l b (writes_in l (steps_of old b)) m o x y refl)
    where
      here : (m ≡ writes_in l (steps_of new b)) ⊎ Listed l b m → RightHere l b m ⊎ Listed l b m
      here (inl same) = inl (right-end l b m z (first-live l z (founded-cause f)) (as-was l b (writes_in l (steps_of old b)) m o x y live ∙ c) a same)
      here (inr k) = inr k
  right-or-listed (by_phi {l = l} {b = b} c a) m o x y live = here (at-last l b (writes_in l (steps_of old b)) m o x y refl)
    where
      cause : why l b m ≡ causes.Phi
      cause = as-was l b (writes_in l (steps_of old b)) m o x y live ∙ c

      here : (m ≡ writes_in l (steps_of new b)) ⊎ Listed l b m → RightHere l b m ⊎ Listed l b m
      here (inl same) = inl (reason-moves (for_phi (subst (Among l) (edit.last b) a)) (sym same) (sym cause) (sym (note-phi l b m cause)))
      here (inr k) = inr k

  pub all-right : (n : Node) → cause_at why n ≡ true → RightHere n.0 n.1 n.2 ⊎ Among n list
  all-right n live = let k = kept.live n.0 n.1 n.2 live in right-or-listed (grown.founded n.0 n.1 k.number (was-live n.0 n.1 n.2 k live)) n.2 k.start k.before k.after live

  -- where the cause holds as before it is right

  follower-of : {l b n : ℕ} → Founded old was l b n → (x : ℕ) → was l b n ≡ causes.Follower x → Among x (exits_of old b) × (is_live (was l x 0) ≡ true)
  follower-of (by_reading before s rest e c u) x h = absurd (let z : causes.Reading s.id ≡ causes.Follower x = sym c ∙ h in cc)
  follower-of (by_move before s rest e c u w f) x h = absurd (let z : causes.Reading s.id ≡ causes.Follower x = sym c ∙ h in cc)
  follower-of (by_exit {l = l} {b = b} {x = y} before s rest e c t a f) x h =
      let z : causes.Follower y ≡ causes.Follower x = sym c ∙ h in
      let i : y ≡ x = cc in
      (subst (λ k. Among k (exits_of old b)) i a, ap (λ k. is_live (was l k 0)) (sym i) ∙ founded-cause f)
  follower-of (by_end {l = l} {b = b} {x = y} c a f) x h =
      let z : causes.Follower y ≡ causes.Follower x = sym c ∙ h in
      let i : y ≡ x = cc in
      (subst (λ k. Among k (exits_of old b)) i a, ap (λ k. is_live (was l k 0)) (sym i) ∙ founded-cause f)
  follower-of (by_phi c a) x h = absurd (let z : causes.Phi ≡ causes.Follower x = sym c ∙ h in cc)

  -- the instruction of an id in the edited code is what became of that of before
  found-as : (b : ℕ) (before : List Step) (r : Step) (rest : List Step) (s q : Step) (p : PairAt b s q) → steps_of new b ≡ before ++ r ∷ rest → s.id ≡ r.id → (before ≡ p.before') × (r ≡ q)
  found-as b before r rest s q p e same = let h = one-split slots' 0 (steps_of new b) before r rest p.before' q p.rest' (numbered' b) e p.e' (sym same ∙ p.like.id) in (h.0, h.1)

  same-reading : (c : Cause) (i j : ℕ) → c ≡ causes.Reading i → c ≡ causes.Reading j → i ≡ j
  same-reading c i j e f = let z : causes.Reading i ≡ causes.Reading j = sym e ∙ f in cc

  reading-of : {l b n : ℕ} → Founded old was l b n → (m : ℕ) (o : Option ℕ) → Begins old l b n o → Begins new l b m o → (before : List Step) (r : Step) (rest : List Step) → steps_of new b ≡ before ++ r ∷ rest → m ≡ writes_in l before → why l b m ≡ causes.Reading r.id → touched l b r.id ≡ false → RightHere l b m
  reading-of (by_reading {l = l} {b = b} before s rest e c u) m o x y before' r rest' e' same k t =
      let p = pair b before s rest e in
      let z : why l b m ≡ causes.Reading s.id = as-was l b (writes_in l before) m o x y (ap is_live k) ∙ c in
      let h = found-as b before' r rest' s p.0 p.1 e' (same-reading (why l b m) s.id r.id z k) in
      right-certain l b m s p.0 p.1 z u (same ∙ ap (writes_in l) h.0) (ap (λ (q : Step). touched l b q.id) (sym h.1) ∙ t)
  reading-of (by_move {l = l} {a = a} {b = b} before s rest e c u w f) m o x y before' r rest' e' same k t =
      let p = pair b before s rest e in
      let z : why l b m ≡ causes.Reading s.id = as-was l b (writes_in l before) m o x y (ap is_live k) ∙ c in
      let h = found-as b before' r rest' s p.0 p.1 e' (same-reading (why l b m) s.id r.id z k) in
      right-move l b m a s p.0 p.1 w (ap (λ xs. is_live (was a b (writes_in a (xs ++ s ∷ [])))) (sym (found-at b before s rest p.0 p.1 e)) ∙ founded-cause f) z u (same ∙ ap (writes_in l) h.0) (ap (λ (q : Step). touched l b q.id) (sym h.1) ∙ t)
  reading-of (by_exit {l = l} {b = b} {x = z} before s rest e c v a f) m o x y before' r rest' e' same k t =
      absurd (let q : causes.Follower z ≡ causes.Reading r.id = sym (as-was l b (writes_in l (before ++ s ∷ [])) m o x y (ap is_live k) ∙ c) ∙ k in cc)
  reading-of (by_end {l = l} {b = b} {x = z} c a f) m o x y before' r rest' e' same k t =
      absurd (let q : causes.Follower z ≡ causes.Reading r.id = sym (as-was l b (writes_in l (steps_of old b)) m o x y (ap is_live k) ∙ c) ∙ k in cc)
  reading-of (by_phi {l = l} {b = b} c a) m o x y before' r rest' e' same k t =
      absurd (let q : causes.Phi ≡ causes.Reading r.id = sym (as-was l b (writes_in l (steps_of old b)) m o x y (ap is_live k) ∙ c) ∙ k in cc)

  holds-right : {l b m : ℕ} → Holds touched new why l b m → (n : ℕ) (o : Option ℕ) → Founded old was l b n → Begins old l b n o → Begins new l b m o → is_live (why l b m) ≡ true → RightHere l b m
  holds-right (holds_dead {l = l} {b = b} {n = m} d) n o f x y live = not-both (is_live (why l b m)) live d
  holds-right (holds_reading {l = l} {b = b} before r rest e c t) n o f x y live = reading-of f (writes_in l before) o x y before r rest e refl c (t l)
  holds-right (holds_exit {l = l} {b = b} {x = z} before r rest e c t) n o f x y live =
      let g = follower-of f z (sym (as-was l b n (writes_in l (before ++ r ∷ [])) o x y live) ∙ c) in
      right-exit l b (writes_in l (before ++ r ∷ [])) z before r rest e (first-live l z g.1) c t g.0 refl
  holds-right (holds_end {l = l} {b = b} {x = z} c) n o f x y live =
      let g = follower-of f z (sym (as-was l b n (writes_in l (steps_of new b)) o x y live) ∙ c) in
      right-end l b (writes_in l (steps_of new b)) z (first-live l z g.1) c g.0 refl

  pub all-hold : (n : Node) → cause_at why n ≡ true → Holds touched new why n.0 n.1 n.2 → RightHere n.0 n.1 n.2
  all-hold n live h = let k = kept.live n.0 n.1 n.2 live in holds-right h k.number k.start (grown.founded n.0 n.1 k.number (was-live n.0 n.1 n.2 k live)) k.before k.after live

  -- in a dead piece that isn't listed nothing counts

  live-or-listed : (l b : ℕ) (done done' : List Step) → At touched old new slots' numbered' edit list listed b l done done' → is_live (was l b (writes_in l done)) ≡ true → (is_live (why l b (writes_in l done')) ≡ true) ⊎ Listed l b (writes_in l done')
  live-or-listed l b done done' at live = go at.agree
    where
      go : (at.before ≡ at.after) ⊎ (Listed l b (writes_in l done') × ((m : ℕ) → Begins new l b m at.before → Listed l b m)) → (is_live (why l b (writes_in l done')) ≡ true) ⊎ Listed l b (writes_in l done')
      go (inl e) = carried-live l b (writes_in l done) (writes_in l done') at.before at.begins (subst (Begins new l b (writes_in l done')) (sym e) at.begun) live
      go (inr c) = inr c.0

  dead-listed : (l b : ℕ) (done done' : List Step) → At touched old new slots' numbered' edit list listed b l done done' → is_live (was l b (writes_in l done)) ≡ true → is_live (why l b (writes_in l done')) ≡ false → Listed l b (writes_in l done')
  dead-listed l b done done' at live dead = go (live-or-listed l b done done' at live)
    where
      go : (is_live (why l b (writes_in l done')) ≡ true) ⊎ Listed l b (writes_in l done') → Listed l b (writes_in l done')
      go (inl k) = not-both (is_live (why l b (writes_in l done'))) k dead
      go (inr a) = a

  abbrev From : ℕ → Step → Type 0
  From b r = ((s : Step) × PairAt b s r) ⊎ IsNew (λ k i. touched k b i) r

  from : (b : ℕ) (before : List Step) (r : Step) (rest : List Step) → steps_of new b ≡ before ++ r ∷ rest → From b r
  from b before r rest e = pair-to touched old new slots' numbered' edit list listed b r (subst (Among r) (sym e) (among-append r before rest))

  module _ (l b : ℕ) (before : List Step) (r : Step) (rest : List Step) (e : steps_of new b ≡ before ++ r ∷ rest) where
    place : (s : Step) (p : PairAt b s r) → before ≡ p.before'
    place s p = (found-as b before r rest s r p e p.like.id).0

    entry-dead : (s : Step) (p : PairAt b s r) → is_live (was l b (writes_in l p.before)) ≡ true → is_live (why l b (writes_in l before)) ≡ false → Listed l b (writes_in l before)
    entry-dead s p live dead = subst (λ xs. Listed l b (writes_in l xs)) (sym (place s p)) (dead-listed l b p.before p.before' (p.entry l) live (ap (λ xs. is_live (why l b (writes_in l xs))) (sym (place s p)) ∙ dead))

    exit-dead : (s : Step) (p : PairAt b s r) → is_live (was l b (writes_in l (p.before ++ s ∷ []))) ≡ true → is_live (why l b (writes_in l (before ++ r ∷ []))) ≡ false → Listed l b (writes_in l (before ++ r ∷ []))
    exit-dead s p live dead =
        subst (λ xs. Listed l b (writes_in l (xs ++ r ∷ []))) (sym (place s p))
        (dead-listed l b (p.before ++ s ∷ []) (p.before' ++ r ∷ []) (p.exit l) live (ap (λ xs. is_live (why l b (writes_in l (xs ++ r ∷ [])))) (sym (place s p)) ∙ dead))

    dead-reading : use_of l r ≡ Certain → is_live (why l b (writes_in l before)) ≡ false → From b r → (v : Bool) → touched l b r.id ≡ v → Listed l b (writes_in l before)
    dead-reading u dead o true t = (listed l b before r rest e t).0
    dead-reading u dead (inl p) false t = entry-dead p.0 p.1 (grown.closed.reading b l p.1.before p.0 p.1.rest p.1.e (p.1.like.used l t ∙ u)) dead
    dead-reading u dead (inr h) false t = absurd (let z : Unused ≡ Certain = sym (h.unused l t) ∙ u in cc)

    -- what the lane is moved into was live
    pub moved-live : (a : ℕ) (s : Step) (p : PairAt b s r) → is_written a r ≡ true → is_live (why a b (writes_in a (before ++ r ∷ []))) ≡ true → is_live (was a b (writes_in a (p.before ++ s ∷ []))) ≡ true
    moved-live a s p w live =
        let n : ℕ = writes_in a (before ++ r ∷ []) in
        let k = kept.live a b n live in
        let start : k.start ≡ Some s.id = one-start new k.after (at_write before r rest e w) refl ∙ ap Some (sym p.like.id) in
        let v : is_written a s ≡ true = writes-it old slots numbered p.before s p.rest p.e k.before start in
        let same : k.number ≡ writes_in a (p.before ++ s ∷ []) = one-number old slots numbered k.before (at_write p.before s p.rest p.e v) start in
        ap (λ i. is_live (was a b i)) (sym same) ∙ was-live a b n k live

    dead-move : (a : ℕ) → use_of l r ≡ Into a → is_written a r ≡ true → is_live (why a b (writes_in a (before ++ r ∷ []))) ≡ true → is_live (why l b (writes_in l before)) ≡ false → From b r → (v : Bool) → touched l b r.id ≡ v → Listed l b (writes_in l before)
    dead-move a u w live dead o true t = (listed l b before r rest e t).0
    dead-move a u w live dead (inl p) false t = entry-dead p.0 p.1 (grown.closed.move b l a p.1.before p.0 p.1.rest p.1.e (p.1.like.used l t ∙ u) (moved-live a p.0 p.1 w live)) dead
    dead-move a u w live dead (inr h) false t = absurd (let z : Unused ≡ Into a = sym (h.unused l t) ∙ u in cc)

    dead-exit : (x : ℕ) → r.leaves ≡ true → Among x (exits_of old b) → is_live (was l x 0) ≡ true → is_live (why l b (writes_in l (before ++ r ∷ []))) ≡ false → From b r → Listed l b (writes_in l (before ++ r ∷ []))
    dead-exit x t a live dead (inl p) = exit-dead p.0 p.1 (grown.closed.exit b l x p.1.before p.0 p.1.rest p.1.e (p.1.like.leaves ∙ t) a live) dead
    dead-exit x t a live dead (inr h) = absurd (let z : false ≡ true = sym h.leaves ∙ t in cc)

  pub was-first : (l x : ℕ) → is_live (why l x 0) ≡ true → is_live (was l x 0) ≡ true
  was-first l x live = ap is_live (sym (first-same l x)) ∙ live

  counts-listed : {l b n : ℕ} {c : Cause} {o : Option Node} → IsReason new l b n c o → is_live (why l b n) ≡ false → counts why o ≡ true → Listed l b n
  counts-listed (for_reading {l = l} {b = b} before r rest e u) dead live = dead-reading l b before r rest e u dead (from b before r rest e) (touched l b r.id) refl
  counts-listed (for_move {l = l} {a = a} {b = b} before r rest e u w) dead live = dead-move l b before r rest e a u w live dead (from b before r rest e) (touched l b r.id) refl
  counts-listed (for_exit {l = l} {b = b} {x = x} before r rest e t a) dead live =
      dead-exit l b before r rest e x t (subst (Among x) (sym (edit.exits b)) a) (was-first l x live) dead (from b before r rest e)
  counts-listed (for_end {l = l} {b = b} {x = x} a) dead live =
      dead-listed l b (steps_of old b) (steps_of new b) (at-end touched old new slots' numbered' edit list listed b l) (grown.closed.end b l x (subst (Among x) (sym (edit.exits b)) a) (was-first l x live)) dead
  counts-listed (for_phi {l = l} {b = b} a) dead live =
      dead-listed l b (steps_of old b) (steps_of new b) (at-end touched old new slots' numbered' edit list listed b l) (grown.closed.phi b l (subst (Among l) (sym (edit.last b)) a)) dead

  pub all-listed : (n : Node) (c : Cause) (o : Option Node) → cause_at why n ≡ false → IsReason new n.0 n.1 n.2 c o → counts why o ≡ true → Among n list
  all-listed n c o dead r live = counts-listed r dead live
