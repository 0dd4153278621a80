-- Marks that are laid out along blocks, each with its own in order, stand in layout order.
use Rattle.std.proofs.Common.{◌≡◌, ℕ, cond, List, [], ◌∷◌, ◌++◌, flat_map, refl, sym, ap, ◌∙◌, subst, append-nil, eq-eqb}
use Rattle.meaning.specs.Live.{Among as Member, here as first, there as later}
use Rattle.mir_func.specs.declared.func.Block.{Block}
use Rattle.mir_func.specs.Value.{Function}
use Rattle.mir_meaning.specs.Rules.{block_numbers}
use Rattle.live_lanes.specs.declared.ask.labels.Mark.{Mark}
use Rattle.instr_effects.proofs.Members.{either-elim, map-in, member-elim, member-none}
use Rattle.live_laws.proofs.Effects.Moved.{Apart}
use Rattle.split_kit.specs.PartEdits.{AreInTurn, IsThinned, marks_in, spots_of}
use Rattle.split_kit.proofs.BlockEdits.{all-left-out, spots}
use Rattle.split_laws.proofs.Marked.{differ}

-- all marks are in block n
abbrev pub AreOf : ℕ → List Mark → Type 0
AreOf n ms = (m : Mark) → Member m ms → m.block ≡ n

-- the first of the marks are a block's, at places of it in order, and the others lie along the blocks behind it
pub record IsLaid (b : Block) (Behind : List Mark → Type 0) (ms : List Mark) : Type 0 where
  pub own : List Mark
  pub others : List Mark
  pub marks : ms ≡ own ++ others
  pub block : AreOf b.number own
  pub spots : IsThinned (spots_of b) (spots own)
  pub behind : Behind others

-- so they lie along these blocks
abbrev pub AreLaid : List Block → List Mark → Type 0
AreLaid [] ms = ms ≡ []
AreLaid (b ∷ bs) ms = IsLaid b (λ others. AreLaid bs others) ms

-- how marks are laid

pub none-laid : (bs : List Block) → AreLaid bs []
none-laid [] = refl
none-laid (b ∷ bs) = record { own = []; others = []; marks = refl; block = λ m k. absurd (member-none m k); spots = all-left-out (spots_of b); behind = none-laid bs }

-- the marks of a block and those behind it
pub next-laid : (b : Block) (bs : List Block) (own ms : List Mark) → AreOf b.number own → IsThinned (spots_of b) (spots own) → AreLaid bs ms → AreLaid (b ∷ bs) (own ++ ms)
next-laid b bs own ms h s r = record { own = own; others = ms; marks = refl; block = h; spots = s; behind = r }

-- those of the blocks behind it alone
pub past-laid : (pre bs : List Block) (ms : List Mark) → AreLaid bs ms → AreLaid (pre ++ bs) ms
past-laid [] bs ms r = r
past-laid (b ∷ pre) bs ms r = next-laid b (pre ++ bs) [] ms (λ m k. absurd (member-none m k)) (all-left-out (spots_of b)) (past-laid pre bs ms r)

-- block by block
pub each-laid : (g : Block → List Mark) → ((b : Block) → AreOf b.number (g b)) → (bs : List Block) → ((b : Block) → Member b bs → IsThinned (spots_of b) (spots (g b))) → AreLaid bs (flat_map g bs)
each-laid g h [] s = refl
each-laid g h (b ∷ bs) s = next-laid b bs (g b) (flat_map g bs) (h b) (s b first) (each-laid g h bs (λ c m. s c (later m)))

-- marks of a block among others

all-there : (n : ℕ) (own others : List Mark) → AreOf n own → marks_in (own ++ others) n ≡ own ++ marks_in others n
all-there n [] others h = refl
all-there n (m ∷ own) others h =
    ap (λ q. cond q (m ∷ marks_in (own ++ others) n) (marks_in (own ++ others) n)) (eq-eqb m.block n (h m first)) ∙ ap (λ ms. m ∷ ms) (all-there n own others (λ k j. h k (later j)))

none-there : (n : ℕ) (own others : List Mark) → ((m : Mark) → Member m own → m.block ≡ n → ⊥) → marks_in (own ++ others) n ≡ marks_in others n
none-there n [] others h = refl
none-there n (m ∷ own) others h =
    ap (λ q. cond q (m ∷ marks_in (own ++ others) n) (marks_in (own ++ others) n)) (differ m.block n (h m first)) ∙ none-there n own others (λ k j. h k (later j))

-- they are in the blocks
laid-blocks : (bs : List Block) (ms : List Mark) → AreLaid bs ms → (m : Mark) → Member m ms → Member m.block (block_numbers bs)
laid-blocks [] ms r m k = absurd (member-none m (subst (Member m) r k))
laid-blocks (b ∷ bs) ms r m k =
    either-elim m r.own r.others (λ j. subst (λ n. Member n (block_numbers (b ∷ bs))) (sym (r.block m j)) first) (λ j. later (laid-blocks bs r.others r.behind m j)) (subst (Member m) r.marks k)

flat-alike : {X Y : Type 0} (g h : X → List Y) (xs : List X) → ((x : X) → Member x xs → g x ≡ h x) → flat_map g xs ≡ flat_map h xs
flat-alike g h [] e = refl
flat-alike g h (x ∷ xs) e = λ k. e x first k ++ flat-alike g h xs (λ y m. e y (later m)) k

-- they stand in layout order along these blocks
record StandAlong (bs : List Block) (ms : List Mark) : Type 0 where
  blocks : ms ≡ flat_map (λ (b : Block). marks_in ms b.number) bs
  spots : (b : Block) → Member b bs → IsThinned (spots_of b) (spots (marks_in ms b.number))

one-more : (b : Block) (bs : List Block) → Apart (block_numbers (b ∷ bs)) → (ms : List Mark) → (r : AreLaid (b ∷ bs) ms) → StandAlong bs r.others → StandAlong (b ∷ bs) (r.own ++ r.others)
one-more b bs a ms r ih = record { blocks = blocks; spots = places }
  where
    own-is : marks_in (r.own ++ r.others) b.number ≡ r.own
    own-is =
        all-there b.number r.own r.others r.block
        ∙ (ap (λ ms. r.own ++ ms) (ap (λ ms. marks_in ms b.number) (sym (append-nil r.others)) ∙ none-there b.number r.others [] (λ m k e. a.0 (subst (λ n. Member n (block_numbers bs)) e (laid-blocks bs r.others r.behind m k))))
        ∙ append-nil r.own)

    others-are : (c : Block) → Member c bs → marks_in (r.own ++ r.others) c.number ≡ marks_in r.others c.number
    others-are c mc = none-there c.number r.own r.others (λ m k e. a.0 (subst (λ n. Member n (block_numbers bs)) (sym e ∙ r.block m k) (map-in (λ (d : Block). d.number) c bs mc)))

    blocks : r.own ++ r.others ≡ flat_map (λ (c : Block). marks_in (r.own ++ r.others) c.number) (b ∷ bs)
    blocks =
        let rest = ih.blocks ∙ sym (flat-alike (λ (c : Block). marks_in (r.own ++ r.others) c.number) (λ c. marks_in r.others c.number) bs others-are) in
        λ k. sym own-is k ++ rest k

    places : (c : Block) → Member c (b ∷ bs) → IsThinned (spots_of c) (spots (marks_in (r.own ++ r.others) c.number))
    places c mc =
        member-elim c b bs
        (λ e. subst (λ (d : Block). IsThinned (spots_of d) (spots (marks_in (r.own ++ r.others) d.number))) (sym e) (subst (λ ms. IsThinned (spots_of b) (spots ms)) (sym own-is) r.spots))
        (λ k. subst (λ ms. IsThinned (spots_of c) (spots ms)) (sym (others-are c k)) (ih.spots c k)) mc

along : (bs : List Block) → Apart (block_numbers bs) → (ms : List Mark) → AreLaid bs ms → StandAlong bs ms
along [] a ms r = record { blocks = r; spots = λ b m. absurd (member-none b m) }
along (b ∷ bs) a ms r = subst (StandAlong (b ∷ bs)) (sym r.marks) (one-more b bs a ms r (along bs a.1 r.others r.behind))

pub laid-in-turn : (f : Function) (ms : List Mark) → Apart (block_numbers f.blocks) → AreLaid f.blocks ms → AreInTurn f ms
laid-in-turn f ms a r = let s = along f.blocks a ms r in record { blocks = s.blocks; spots = s.spots }
