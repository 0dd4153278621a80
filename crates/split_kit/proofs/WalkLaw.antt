-- What is left to be done while blocks are gone through.
use Rattle.std.proofs.Common.{◌≡◌, ◌∷◌, ◌++◌, ◌∙◌, ◌+◌, ℕ, zero, suc, Bool, true, false, cond, List, [], Option, Some, None, map, take, drop, refl, sym, ap, subst, arith, append_assoc, append-nil, eq-eqb, eqb-true}
use Rattle.std.specs.Prelude.{filter, flat_map, nat_eq, slice_get}
use Rattle.meaning.specs.Live.{Among, here, there}
use Rattle.mir_func.specs.declared.func.Block.{Block}
use Rattle.mir_func.specs.declared.func.Instr.{Instr}
use Rattle.mir_func.specs.Value.{Function}
use Rattle.mir_meaning.specs.Paths.{has}
use Rattle.mir_meaning.specs.Points.{Entry, Point, Start, touches}
use Rattle.live_lanes.specs.declared.ask.labels.Mark.{Mark}
use Rattle.live_lanes.specs.declared.table.Table.{Table}
use Rattle.live_lanes.specs.Ordered.{ids_of}
use Rattle.live_lanes.specs.Tells.{touching_ids}
use Rattle.edit_laws.specs.Edits.{Edit}
use Rattle.split_kit.specs.Split.{is_gap, label_behind, last_label, last_point, start_label}
use Rattle.split_kit.specs.PartEdits.{ShowsParts, block_edits, copy_edits, gap_of, instr_edits, marks_in, part_edits, split_edits}
use Rattle.split_kit.specs.BlockWalk.{earlier, first_home, how_many, instr_home, mark_home}
use Rattle.split_kit.proofs.BlockEdits.{copy-same, marks-picked, picked}
use Rattle.split_kit.proofs.BlockWalk.{AreLaid, IsNext, next-found, none-left}

laid-all : {X : Type 0} (home : X → Option ℕ) (own : Block → List X) (p : ℕ) (bs : List Block) → ((k : ℕ) (b : Block) → slice_get bs k ≡ Some b → (x : X) → Among x (own b) → home x ≡ Some (p + k)) → AreLaid home own p bs
laid-all home own p [] h = tt
laid-all home own p (b ∷ bs) h = ((λ x m. h 0 b refl x m ∙ ap Some (omega arith)), laid-all home own (suc p) bs (λ k c e x m. h (suc k) c e x m ∙ ap Some (omega arith)))

laid-behind : {X : Type 0} (home : X → Option ℕ) (own : Block → List X) (p k : ℕ) (bs : List Block) → AreLaid home own p bs → AreLaid home own (p + k) (drop k bs)
laid-behind home own p zero bs laid = subst (λ n. AreLaid home own n bs) (omega arith) laid
laid-behind home own p (suc k) [] laid = tt
laid-behind home own p (suc k) (b ∷ bs) laid = subst (λ n. AreLaid home own n (drop k bs)) (omega arith) (laid-behind home own (suc p) k bs laid.1)

get-behind : {X : Type 0} (k j : ℕ) (xs : List X) → slice_get (drop k xs) j ≡ slice_get xs (k + j)
get-behind zero j xs = let e : j ≡ 0 + j = omega arith in ap (slice_get xs) e
get-behind (suc k) j [] = refl
get-behind (suc k) j (x ∷ xs) = let e : suc (k + j) ≡ suc k + j = omega arith in get-behind k j xs ∙ ap (slice_get (x ∷ xs)) e

map-flat : {X Y Z : Type 0} (g : Y → Z) (h : X → List Y) (xs : List X) → map g (flat_map h xs) ≡ flat_map (λ x. map g (h x)) xs
map-flat g h [] = refl
map-flat {Y = Y} {Z = Z} g h (x ∷ xs) = both (h x) ∙ ap (λ zs. map g (h x) ++ zs) (map-flat g h xs)
  where
    both : (ys : List Y) → map g (ys ++ flat_map h xs) ≡ map g ys ++ map g (flat_map h xs)
    both [] = refl
    both (y ∷ ys) = ap (λ zs. g y ∷ zs) (both ys)

filter-both : {X : Type 0} (test : X → Bool) (xs ys : List X) → filter test (xs ++ ys) ≡ filter test xs ++ filter test ys
filter-both test [] ys = refl
filter-both test (x ∷ xs) ys = go (test x) (filter-both test xs ys)
  where
    go : (u : Bool) → filter test (xs ++ ys) ≡ filter test xs ++ filter test ys → cond u (x ∷ filter test (xs ++ ys)) (filter test (xs ++ ys)) ≡ cond u (x ∷ filter test xs) (filter test xs) ++ filter test ys
    go true h = ap (λ zs. x ∷ zs) h
    go false h = h

filter-flat : {X Y : Type 0} (test : Y → Bool) (h : X → List Y) (xs : List X) → filter test (flat_map h xs) ≡ flat_map (λ x. filter test (h x)) xs
filter-flat test h [] = refl
filter-flat test h (x ∷ xs) = filter-both test (h x) (flat_map h xs) ∙ ap (λ zs. filter test (h x) ++ zs) (filter-flat test h xs)

touching-by-blocks : (f : Function) (v : ℕ) → touching_ids f v ≡ flat_map (λ (b : Block). ids_of (filter (touches v) b.instrs)) f.blocks
touching-by-blocks f v = ap ids_of (filter-flat (touches v) (λ (b : Block). b.instrs) f.blocks) ∙ map-flat (λ (i : Instr). i.id) (λ (b : Block). filter (touches v) b.instrs) f.blocks

has-own : (v id : ℕ) (is : List Instr) → Among id (ids_of (filter (touches v) is)) → has id (ids_of is) ≡ true
has-own v id [] m = elim m [ ]
has-own v id (i ∷ is) m = go id (touches v i) m (has-own v id is)
  where
    later : (n : ℕ) (u : Bool) → has n (ids_of is) ≡ true → cond u true (has n (ids_of is)) ≡ true
    later n true h = refl
    later n false h = h

    go : (n : ℕ) (u : Bool) → Among n (ids_of (cond u (i ∷ filter (touches v) is) (filter (touches v) is))) → (Among n (ids_of (filter (touches v) is)) → has n (ids_of is) ≡ true) → has n (ids_of (i ∷ is)) ≡ true
    go n true here h = ap (λ u. cond u true (has n (ids_of is))) (eq-eqb n n refl)
    go n true (there m) h = later n (nat_eq i.id n) (h m)
    go n false m h = later n (nat_eq i.id n) (h m)

mark-block : (n : ℕ) (m : Mark) (ms : List Mark) → Among m (marks_in ms n) → m.block ≡ n
mark-block n m [] a = elim a [ ]
mark-block n m (k ∷ ms) a = go m (nat_eq k.block n) refl a (mark-block n m ms)
  where
    go : (x : Mark) (u : Bool) → nat_eq k.block n ≡ u → Among x (cond u (k ∷ marks_in ms n) (marks_in ms n)) → (Among x (marks_in ms n) → x.block ≡ n) → x.block ≡ n
    go x true e here h = eqb-true x.block n e
    go x true e (there b) h = h b
    go x false e b h = h b

-- a block with neither needs no edits

module _ (test : Point → Bool) (f : Function) (v : ℕ) (ms : List Mark) (b : Block) (none : marks_in ms b.number ≡ []) where
  label-stays : (before : Option ℕ) (now : ℕ) → label_behind ms b.number before now ≡ now
  label-stays before now = ap (last_label now) (marks-picked ms b.number (is_gap before) ∙ ap (picked (is_gap before)) none)

  idle-from : (now : ℕ) (is : List Instr) → ids_of (filter (touches v) is) ≡ [] → instr_edits test f v ms b now is ≡ []
  idle-from now [] e = ap (copy_edits f (gap_of b None) (test (last_point (Start b.number) b.instrs)) now) (label-stays None now) ∙ copy-same f (gap_of b None) (test (last_point (Start b.number) b.instrs)) now
  idle-from now (i ∷ is) e =
      ap (λ to. copy_edits f (gap_of b (Some i.id)) (test (Entry i.id)) now to ++ (cond (touches v i) (part_edits f v to i) [] ++ instr_edits test f v ms b to is)) (label-stays (Some i.id) now)
      ∙ (ap (λ es. es ++ (cond (touches v i) (part_edits f v now i) [] ++ instr_edits test f v ms b now is)) (copy-same f (gap_of b (Some i.id)) (test (Entry i.id)) now)
      ∙ go (touches v i) e (idle-from now is))
    where
      go : (u : Bool) → ids_of (cond u (i ∷ filter (touches v) is) (filter (touches v) is)) ≡ [] → (ids_of (filter (touches v) is) ≡ [] → instr_edits test f v ms b now is ≡ []) → cond u (part_edits f v now i) [] ++ instr_edits test f v ms b now is ≡ []
      go true h rest = absurd (cc)
      go false h rest = rest h

module _ (x : Table) (f : Function) (v : ℕ) (ms : List Mark) (test : Point → Bool) where
  abbrev own : Block → List ℕ
  own b = ids_of (filter (touches v) b.instrs)

  abbrev marks : Block → List Mark
  marks b = marks_in ms b.number

  abbrev E : Block → List Edit
  E b = block_edits test f v ms b

  idle : (b : Block) → own b ≡ [] → marks b ≡ [] → E b ≡ []
  idle b none none' = idle-from test f v ms b none' (start_label ms b.number) b.instrs none

  -- what is left is that of the blocks from a position on
  pub record IsLeft (ids : List ℕ) (left : List Mark) (es : List Edit) : Type 0 where
    pub p : ℕ
    pub own_laid : AreLaid (instr_home x) own p (drop p f.blocks)
    pub marks_laid : AreLaid (mark_home x) marks p (drop p f.blocks)
    pub own_left : ids ≡ flat_map own (drop p f.blocks)
    pub marks_left : left ≡ flat_map marks (drop p f.blocks)
    pub edits : es ++ flat_map E (drop p f.blocks) ≡ flat_map E f.blocks

  pub left-start : (ids : List ℕ) → ShowsParts x f v ms test → ids ≡ touching_ids f v → IsLeft ids ms []
  left-start ids shows same = record {
    p = 0;
    own_laid = laid-all (instr_home x) own 0 f.blocks (λ k b e id m. ap Some (shows.finds.homes k b id e (has-own v id b.instrs m) ∙ omega arith));
    marks_laid = laid-all (mark_home x) marks 0 f.blocks (λ k b e m a. ap (λ n. mark_home x (record m { block = n })) (mark-block b.number m ms a) ∙ (shows.positions k b e ∙ ap Some (omega arith)));
    own_left = same ∙ touching-by-blocks f v;
    marks_left = shows.marks.blocks;
    edits = refl;
  }

  -- the next block
  pub record IsBlock (ids : List ℕ) (left : List Mark) (es : List Edit) (q : ℕ) : Type 0 where
    pub block : Block
    pub there : slice_get f.blocks q ≡ Some block
    pub own_here : take (how_many (instr_home x) q ids) ids ≡ own block
    pub marks_here : take (how_many (mark_home x) q left) left ≡ marks block
    pub further : (new : List Edit) → new ≡ es ++ E block → IsLeft (drop (how_many (instr_home x) q ids) ids) (drop (how_many (mark_home x) q left) left) new

  drop-further : {X : Type 0} (k p q : ℕ) (xs : List X) → q ≡ p + k → drop (suc k) (drop p xs) ≡ drop (suc q) xs
  drop-further k zero q xs e = ap (λ n. drop (suc n) xs) (omega (arith, e))
  drop-further k (suc p) zero xs e = absurd (omega (arith, e))
  drop-further k (suc p) (suc q) [] e = refl
  drop-further k (suc p) (suc q) (y ∷ ys) e = drop-further k p q ys (omega (arith, e))

  pub left-block : (ids : List ℕ) (left : List Mark) (es : List Edit) (q : ℕ) → IsLeft ids left es → earlier (first_home (instr_home x) ids) (first_home (mark_home x) left) ≡ Some q → IsBlock ids left es q
  left-block ids left es q h e =
      let bs : List Block = drop h.p f.blocks in
      let n : IsNext (instr_home x) (mark_home x) own marks E idle h.p bs q =
      next-found (instr_home x) (mark_home x) own marks E idle h.p bs h.own_laid h.marks_laid q (sym ((λ k. earlier (first_home (instr_home x) (h.own_left k)) (first_home (mark_home x) (h.marks_left k)))) ∙ e) in
      let rest : drop (suc n.k) bs ≡ drop (suc q) f.blocks = drop-further n.k h.p q f.blocks n.position in
      let place : h.p + suc n.k ≡ suc q = (let z : q ≡ h.p + n.k = n.position in omega (arith, z)) in
      record {
        block = n.block;
        there = ap (slice_get f.blocks) n.position ∙ (sym (get-behind h.p n.k f.blocks) ∙ n.there);
        own_here = ap (λ xs. take (how_many (instr_home x) q xs) xs) h.own_left ∙ n.own_first;
        marks_here = ap (λ xs. take (how_many (mark_home x) q xs) xs) h.marks_left ∙ n.marks_first;
        further = λ new step. record {
          p = suc q;
          own_laid = subst (λ m. AreLaid (instr_home x) own m (drop (suc q) f.blocks)) place (subst (AreLaid (instr_home x) own (h.p + suc n.k)) rest (laid-behind (instr_home x) own h.p (suc n.k) bs h.own_laid));
          marks_laid = subst (λ m. AreLaid (mark_home x) marks m (drop (suc q) f.blocks)) place (subst (AreLaid (mark_home x) marks (h.p + suc n.k)) rest (laid-behind (mark_home x) marks h.p (suc n.k) bs h.marks_laid));
          own_left = ap (λ xs. drop (how_many (instr_home x) q xs) xs) h.own_left ∙ (n.own_behind ∙ ap (flat_map own) rest);
          marks_left = ap (λ xs. drop (how_many (mark_home x) q xs) xs) h.marks_left ∙ (n.marks_behind ∙ ap (flat_map marks) rest);
          edits = ap (λ xs. xs ++ flat_map E (drop (suc q) f.blocks)) step
              ∙ (append_assoc es (E n.block) (flat_map E (drop (suc q) f.blocks))
              ∙ (ap (λ cs. es ++ (E n.block ++ flat_map E cs)) (sym rest)
              ∙ (ap (λ xs. es ++ xs) (sym n.edits) ∙ h.edits)));
        };
      }

  pub left-end : (ids : List ℕ) (left : List Mark) (es : List Edit) → IsLeft ids left es → earlier (first_home (instr_home x) ids) (first_home (mark_home x) left) ≡ None → es ≡ split_edits test f v ms
  left-end ids left es h e =
      let bs : List Block = drop h.p f.blocks in
      let none : flat_map E bs ≡ [] = none-left (instr_home x) (mark_home x) own marks E idle h.p bs h.own_laid h.marks_laid (sym ((λ k. earlier (first_home (instr_home x) (h.own_left k)) (first_home (mark_home x) (h.marks_left k)))) ∙ e) in
      sym (append-nil es) ∙ (ap (λ xs. es ++ xs) (sym none) ∙ h.edits)
