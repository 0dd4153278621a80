-- The ties of an instruction: what is done about each pair, and which registers stand in for definitions.
use Rattle.std.proofs.Common.{◌≡◌, ◌⊎◌, inl, inr, ◌∷◌, ◌++◌, ◌∙◌, ◌&&◌, ◌+◌, ◌≤◌, not, ℕ, suc, Bool, true, false, cond, List, Option, Some, None, map, flat_map, length, refl, sym, ap, subst, eqb-true, eq-eqb, arith, []}
use Rattle.std.specs.Prelude.{find, is_some, nat_eq, option_and_then, slice_get, unwrap_or}
use Rattle.std.specs.List.{list_any}
use Rattle.target_base.specs.declared.types.ClassId.{ClassId}
use Rattle.target_base.specs.declared.types.Role.{Role}
use Rattle.target_base.specs.declared.types.Target.{Target}
use Rattle.meaning.specs.Live.{Among, here, there}
use Rattle.meaning.specs.declared.types.Lane.{Lane}
use Rattle.meaning.specs.Relations.{Rel}
use Rattle.mir_func.specs.declared.func.RegOp.{RegOp}
use Rattle.mir_func.specs.declared.func.Operand.{Operand}
use Rattle.mir_func.specs.declared.func.Operand.TheVariants as operands
use Rattle.mir_func.specs.Value.{Function}
use Rattle.mir_func.specs.Binding.{Bound, TiedPair, as_register, class_of, explicit_bound, is_virtual, numbered, register_at, same_index, same_loc, takes_many}
use Rattle.phi_elim.specs.Moves.{destination_of, source_of}
use Rattle.two_address.specs.Lowered.{class_aside, class_if}
use Rattle.two_address.specs.Ties.{definition_class, number_behind, reads_besides, retied, retied_operand, tie_among, tie_aside, tie_of, tie_to, ties_among, undef_use_of, untied, use_of}
use Rattle.two_address.specs.declared.ties.Tie.{Tie}
use Rattle.instr_effects.proofs.Members.{map-in, member-elim, member-none}
use Rattle.live_laws.proofs.Effects.Moved.{Apart}
use Rattle.lowering_laws.proofs.Made.{Stands, stands-class, stands-left, stands-right}
use Rattle.lowering_laws.proofs.Places.{InPlace, Replaces, none, other, register}
use Rattle.lowering_laws.proofs.Tied.{one-index, one-loc}

-- what a tie is, by its pair: x is the register that stands in where the defined one is read besides
pub data Kind (x : ℕ) (p : TiedPair) (read : Bool) (tie : Tie) : Type 0 where
  fixed : is_virtual p.tied_use.loc ≡ false → tie ≡ untied p.number → Kind x p read tie
  blank : is_virtual p.tied_use.loc ≡ true → p.tied_use.undef ≡ true → tie ≡ record (untied p.number) { reading = Some (undef_use_of p.definition) } → Kind x p read tie
  own : is_virtual p.tied_use.loc ≡ true → p.tied_use.undef ≡ false → p.definition.loc ≡ p.tied_use.loc → p.definition.index ≡ p.tied_use.index → tie ≡ record (untied p.number) { reading = Some (use_of p.definition) } → Kind x p read tie
  aside : is_virtual p.tied_use.loc ≡ true → p.tied_use.undef ≡ false → tie ≡ tie_aside x p → Kind x p read tie
  copied : is_virtual p.tied_use.loc ≡ true → p.tied_use.undef ≡ false → read ≡ false → tie ≡ record (untied p.number) { reading = Some (use_of p.definition); before = Some (record { to = destination_of p.definition; from = source_of p.tied_use }) } → Kind x p read tie

pub kind-of : (x : ℕ) (p : TiedPair) (read : Bool) → Kind x p read (tie_of x p read)
kind-of x p read = by (is_virtual p.tied_use.loc) refl p.tied_use.undef refl (same_loc p.definition.loc p.tied_use.loc && same_index p.definition.index p.tied_use.index) refl read refl
  where
    tie_by : Bool → Bool → Bool → Bool → Tie
    tie_by a b c q =
        cond (not a) (untied p.number)
        (cond b (record (untied p.number) { reading = Some (undef_use_of p.definition) })
        (cond c (record (untied p.number) { reading = Some (use_of p.definition) })
        (cond q (tie_aside x p)
        (record (untied p.number) { reading = Some (use_of p.definition); before = Some (record { to = destination_of p.definition; from = source_of p.tied_use }) }))))

    first : (a b : Bool) → (a && b) ≡ true → a ≡ true
    first true b e = refl
    first false b e = absurd (cc)

    second : (a b : Bool) → (a && b) ≡ true → b ≡ true
    second true b e = e
    second false b e = absurd (cc)

    by : (a : Bool) → is_virtual p.tied_use.loc ≡ a → (b : Bool) → p.tied_use.undef ≡ b → (c : Bool) → (same_loc p.definition.loc p.tied_use.loc && same_index p.definition.index p.tied_use.index) ≡ c → (q : Bool) → read ≡ q → Kind x p read (tie_of x p read)
    by false g b u c s q r = fixed g (λ k. tie_by (g k) (u k) (s k) (r k))
    by true g true u c s q r = blank g u (λ k. tie_by (g k) (u k) (s k) (r k))
    by true g false u true s q r = own g u (one-loc p.definition.loc p.tied_use.loc (first (same_loc p.definition.loc p.tied_use.loc) (same_index p.definition.index p.tied_use.index) s)) (one-index p.definition.index p.tied_use.index (second (same_loc p.definition.loc p.tied_use.loc) (same_index p.definition.index p.tied_use.index) s)) (λ k. tie_by (g k) (u k) (s k) (r k))
    by true g false u false s true r = aside g u (λ k. tie_by (g k) (u k) (s k) (r k))
    by true g false u false s false r = copied g u r (λ k. tie_by (g k) (u k) (s k) (r k))

pub kind-number : (x : ℕ) (p : TiedPair) (read : Bool) (tie : Tie) → Kind x p read tie → tie.number ≡ p.number
kind-number x p read tie (fixed g e) = ap (λ z. z.number) e
kind-number x p read tie (blank g u e) = ap (λ z. z.number) e
kind-number x p read tie (own g u l i e) = ap (λ z. z.number) e
kind-number x p read tie (aside g u e) = ap (λ z. z.number) e
kind-number x p read tie (copied g u r e) = ap (λ z. z.number) e

some-is : (x y : ℕ) → Some x ≡ Some y → x ≡ y
some-is x y e = cc

-- the register that stands in is x
kind-aside : (x : ℕ) (p : TiedPair) (read : Bool) (tie : Tie) → Kind x p read tie → (y : ℕ) → tie.aside ≡ Some y → x ≡ y
kind-aside x p read tie (fixed g e) y s = absurd (let z : None ≡ Some y = ap (λ (q : Tie). q.aside) (sym e) ∙ s in cc)
kind-aside x p read tie (blank g u e) y s = absurd (let z : None ≡ Some y = ap (λ (q : Tie). q.aside) (sym e) ∙ s in cc)
kind-aside x p read tie (own g u l i e) y s = absurd (let z : None ≡ Some y = ap (λ (q : Tie). q.aside) (sym e) ∙ s in cc)
kind-aside x p read tie (aside g u e) y s = some-is x y (ap (λ (q : Tie). q.aside) (sym e) ∙ s)
kind-aside x p read tie (copied g u r e) y s = absurd (let z : None ≡ Some y = ap (λ (q : Tie). q.aside) (sym e) ∙ s in cc)

-- ties one after the other

-- there is no tie to the definition of that number, or it is that one
pub found-or : (m : ℕ) (ties : List Tie) → (tie_to m ties ≡ untied m) ⊎ ((tie : Tie) × Among tie ties × (tie.number ≡ m) × (tie_to m ties ≡ tie))
found-or m [] = inl refl
found-or m (tie ∷ ties) = go (nat_eq tie.number m) refl (found-or m ties)
  where
    go : (y : Bool) → nat_eq tie.number m ≡ y → (tie_to m ties ≡ untied m) ⊎ ((x : Tie) × Among x ties × (x.number ≡ m) × (tie_to m ties ≡ x)) → (unwrap_or (cond y (Some tie) (find (λ x. nat_eq x.number m) ties)) (untied m) ≡ untied m) ⊎ ((x : Tie) × Among x (tie ∷ ties) × (x.number ≡ m) × (unwrap_or (cond y (Some tie) (find (λ x. nat_eq x.number m) ties)) (untied m) ≡ x))
    go true e ih = inr (tie, here, eqb-true tie.number m e, refl)
    go false e (inl z) = inl z
    go false e (inr z) = inr (z.0, there z.1, z.2, z.3)

abbrev pub tie_numbers : List Tie → List ℕ
tie_numbers ties = map (λ (tie : Tie). tie.number) ties

-- of ties with numbers of their own each is the one to its definition
pub tie-found : (ties : List Tie) (tie : Tie) → Apart (tie_numbers ties) → Among tie ties → tie_to tie.number ties ≡ tie
tie-found [] tie a m = absurd (member-none tie m)
tie-found (x ∷ ties) tie a m = member-elim tie x ties (λ e. first e) (λ k. go (nat_eq x.number tie.number) refl k (tie-found ties tie a.1 k)) m
  where
    first : tie ≡ x → tie_to tie.number (x ∷ ties) ≡ tie
    first e = (λ k. unwrap_or (cond (nat_eq (sym e k).number tie.number) (Some (sym e k)) (find (λ y. nat_eq y.number tie.number) ties)) (untied tie.number)) ∙ (λ k. unwrap_or (cond (eq-eqb tie.number tie.number refl k) (Some tie) (find (λ y. nat_eq y.number tie.number) ties)) (untied tie.number))

    go : (y : Bool) → nat_eq x.number tie.number ≡ y → Among tie ties → tie_to tie.number ties ≡ tie → unwrap_or (cond y (Some x) (find (λ z. nat_eq z.number tie.number) ties)) (untied tie.number) ≡ tie
    go true e k ih = absurd (a.0 (subst (λ q. Among q (tie_numbers ties)) (sym (eqb-true x.number tie.number e)) (map-in (λ (z : Tie). z.number) tie ties k)))
    go false e k ih = ih

-- one of such ties between the others
pub record Between (ties : List Tie) (tie : Tie) : Type 0 where
  pub front : List Tie
  pub back : List Tie
  pub are : ties ≡ front ++ (tie ∷ back)
  pub before : (x : Tie) → Among x front → Among x ties × (x.number ≡ tie.number → ⊥)
  pub behind : (x : Tie) → Among x back → Among x ties × (x.number ≡ tie.number → ⊥)

pub between : (ties : List Tie) (tie : Tie) → Apart (tie_numbers ties) → Among tie ties → Between ties tie
between [] tie a m = absurd (member-none tie m)
between (x ∷ ties) tie a m =
    member-elim tie x ties
    (λ e. record {
      front = [];
      back = ties;
      are = ap (λ z. z ∷ ties) (sym e);
      before = λ y k. absurd (member-none y k);
      behind = λ y k. (there k, λ q. a.0 (subst (λ n. Among n (tie_numbers ties)) (q ∙ ap (λ (z : Tie). z.number) e) (map-in (λ (z : Tie). z.number) y ties k)));
    })
    (λ k. let z = between ties tie a.1 k in record {
      front = x ∷ z.front;
      back = z.back;
      are = ap (λ w. x ∷ w) z.are;
      before = λ y j. member-elim y x z.front (λ e. (subst (λ w. Among w (x ∷ ties)) (sym e) here, λ q. a.0 (subst (λ n. Among n (tie_numbers ties)) (sym q ∙ ap (λ (w : Tie). w.number) e) (map-in (λ (w : Tie). w.number) tie ties k)))) (λ i. let w = z.before y i in (there w.0, w.1)) j;
      behind = λ y j. let w = z.behind y j in (there w.0, w.1);
    })
    m

module _ (bs : List Bound) where
  abbrev pub is_read : TiedPair → Bool
  is_read p = list_any (reads_besides p.number p.definition.loc) bs

  numbers-same : (c : ℕ) (ps : List TiedPair) → tie_numbers (ties_among bs c ps) ≡ map (λ (p : TiedPair). p.number) ps
  numbers-same c [] = refl
  numbers-same c (p ∷ ps) = λ k. kind-number c p (is_read p) (tie_among bs c p) (kind-of c p (is_read p)) k ∷ numbers-same (number_behind c (tie_among bs c p)) ps k

  pub numbers-apart : (c : ℕ) (ps : List TiedPair) → Apart (map (λ (p : TiedPair). p.number) ps) → Apart (tie_numbers (ties_among bs c ps))
  numbers-apart c ps a = subst Apart (sym (numbers-same c ps)) a

  -- registers that stand in are numbered from the next number on
  above : (c : ℕ) (ps : List TiedPair) (m x : ℕ) → (tie_to m (ties_among bs c ps)).aside ≡ Some x → c ≤ x
  above c [] m x e = absurd (cc)
  above c (p ∷ ps) m x e = go (nat_eq tie.number m) e (above (number_behind c tie) ps m x)
    where
      tie : Tie
      tie = tie_among bs c p

      behind : c ≤ number_behind c tie
      behind = at (is_some tie.aside)
        where
          at : (y : Bool) → c ≤ cond y (c + 1) c
          at true = omega arith
          at false = omega arith

      go : (y : Bool) → (unwrap_or (cond y (Some tie) (find (λ z. nat_eq z.number m) (ties_among bs (number_behind c tie) ps))) (untied m)).aside ≡ Some x → ((tie_to m (ties_among bs (number_behind c tie) ps)).aside ≡ Some x → number_behind c tie ≤ x) → c ≤ x
      go true e ih = let z = kind-aside c p (is_read p) tie (kind-of c p (is_read p)) x e in omega (arith, z)
      go false e ih = let z = ih e in let w = behind in omega (arith, z, w)

  -- so each stands in for one definition
  pub asides-differ : (c : ℕ) (ps : List TiedPair) (m k x : ℕ) → (tie_to m (ties_among bs c ps)).aside ≡ Some x → (tie_to k (ties_among bs c ps)).aside ≡ Some x → m ≡ k
  asides-differ c [] m k x e g = absurd (cc)
  asides-differ c (p ∷ ps) m k x e g = go (nat_eq tie.number m) refl e (nat_eq tie.number k) refl g (λ a b. asides-differ (number_behind c tie) ps m k x a b)
    where
      tie : Tie
      tie = tie_among bs c p

      rest : List Tie
      rest = ties_among bs (number_behind c tie) ps

      at : Bool → ℕ → Option ℕ
      at y n = (unwrap_or (cond y (Some tie) (find (λ z. nat_eq z.number n) rest)) (untied n)).aside

      -- the first stands in with c, and each other with a further number
      apart : (n : ℕ) → tie.aside ≡ Some x → (tie_to n rest).aside ≡ Some x → ⊥
      apart n e g =
          let z = kind-aside c p (is_read p) tie (kind-of c p (is_read p)) x e in
          let w = above (number_behind c tie) ps n x g in
          let y : number_behind c tie ≡ c + 1 = ap (λ q. cond (is_some q) (c + 1) c) e in
          omega (arith, z, w, y)

      go : (y : Bool) → nat_eq tie.number m ≡ y → at y m ≡ Some x → (w : Bool) → nat_eq tie.number k ≡ w → at w k ≡ Some x → ((tie_to m rest).aside ≡ Some x → (tie_to k rest).aside ≡ Some x → m ≡ k) → m ≡ k
      go true a e true b g ih = sym (eqb-true tie.number m a) ∙ eqb-true tie.number k b
      go true a e false b g ih = absurd (apart k e g)
      go false a e true b g ih = absurd (apart m g e)
      go false a e false b g ih = ih e g

  module _ (f : Function) (rs : List Role) (low : ℕ) (all : List TiedPair) where
    -- what a tie among these is
    pub record IsTie (tie : Tie) : Type 0 where
      pub pair : TiedPair
      pub member : Among pair all
      pub new : ℕ
      pub kind : Kind new pair (is_read pair) tie
      pub number : tie.number ≡ pair.number
      pub class : tie.aside ≡ Some new → (low ≤ new) × (class_of f new ≡ definition_class rs pair.number)
      pub stands : (x : ℕ) → tie.aside ≡ Some x → new ≡ x

    pub ties-are : (c : ℕ) (ps : List TiedPair) → ((p : TiedPair) → Among p ps → Among p all) → Stands f.classes low c (flat_map (class_aside rs) (ties_among bs c ps)) → (tie : Tie) → Among tie (ties_among bs c ps) → IsTie tie
    ties-are c [] w s tie m = absurd (member-none tie m)
    ties-are c (p ∷ ps) w s tie m = member-elim tie own rest (λ e. subst IsTie (sym e) mine) (λ k. ties-are (number_behind c own) ps (λ q j. w q (there j)) later tie k) m
      where
        own : Tie
        own = tie_among bs c p

        rest : List Tie
        rest = ties_among bs (number_behind c own) ps

        count : (q : Option ℕ) → c + length (class_if (is_some q) (definition_class rs own.number)) ≡ cond (is_some q) (c + 1) c
        count None = omega arith
        count (Some x) = refl

        later : Stands f.classes low (number_behind c own) (flat_map (class_aside rs) rest)
        later = subst (λ n. Stands f.classes low n (flat_map (class_aside rs) rest)) (count own.aside) (stands-right f.classes low c (class_aside rs own) (flat_map (class_aside rs) rest) s)

        first : Stands f.classes low c (class_aside rs own)
        first = stands-left f.classes low c (class_aside rs own) (flat_map (class_aside rs) rest) s

        kind : Kind c p (is_read p) own
        kind = kind-of c p (is_read p)

        mine : IsTie own
        mine = record {
          pair = p;
          member = w p here;
          new = c;
          kind = kind;
          number = kind-number c p (is_read p) own kind;
          class = λ e. (first.above, stands-class f low c (definition_class rs own.number) [] (subst (λ q. Stands f.classes low c (class_if (is_some q) (definition_class rs own.number))) e first) ∙ ap (definition_class rs) (kind-number c p (is_read p) own kind));
          stands = λ x e. kind-aside c p (is_read p) own kind x e;
        }

-- all operands, by each
module _ (t : Target) (cs : List (Option ClassId)) (ties : List Tie) (f : Function) (R : Rel) (Comes : Lane → Lane → Type 0) (all : List Operand) where
  placed : (m : ℕ) (r : Option Role) (x : Operand) {os os' : List Operand} → ((o : RegOp) → x ≡ operands.Reg o → InPlace t f R Comes o (retied t cs ties m r o)) → Replaces t f R Comes os os' → Replaces t f R Comes (x ∷ os) (retied_operand t cs ties (m, (r, x)) ∷ os')
  placed m r (operands.Reg o) h xs = register (h o refl) xs
  placed m r (operands.Imm z) h xs = other refl xs
  placed m r (operands.Block z) h xs = other refl xs
  placed m r (operands.Stack z) h xs = other refl xs
  placed m r (operands.FixedStack z) h xs = other refl xs
  placed m r (operands.Symbol z) h xs = other refl xs
  placed m r (operands.Index z) h xs = other refl xs
  placed m r (operands.Mask z) h xs = other refl xs

  -- the first of them, and the others
  at-head : (m : ℕ) (x : Operand) (os : List Operand) → ((k : ℕ) → slice_get (x ∷ os) k ≡ slice_get all (m + k)) → (o : RegOp) → x ≡ operands.Reg o → register_at all m ≡ Some o
  at-head m x os g o q = (λ k. option_and_then as_register ((ap (slice_get all) (zero m) ∙ (sym (g 0) ∙ ap Some q)) k))
    where
      zero : (m : ℕ) → m ≡ m + 0
      zero m = omega arith

  further : (m : ℕ) (x : Operand) (os : List Operand) → ((k : ℕ) → slice_get (x ∷ os) k ≡ slice_get all (m + k)) → (k : ℕ) → slice_get os k ≡ slice_get all (suc m + k)
  further m x os g k = g (suc k) ∙ ap (slice_get all) (next m k)
    where
      next : (m k : ℕ) → m + suc k ≡ suc m + k
      next m k = omega arith

  -- the operands from the m-th on
  pub all-placed : (m : ℕ) (rs : List Role) (os : List Operand) → ((k : ℕ) → slice_get os k ≡ slice_get all (m + k)) → ((m : ℕ) (r : Option Role) (o : RegOp) → register_at all m ≡ Some o → Among (r, operands.Reg o) (explicit_bound rs os) → InPlace t f R Comes o (retied t cs ties m r o)) → Replaces t f R Comes os (map (retied_operand t cs ties) (numbered m (explicit_bound rs os)))
  all-placed m rs [] g h = none
  all-placed m [] (x ∷ os) g h =
      placed m None x (λ o q. h m None o (at-head m x os g o q) (subst (λ y. Among (None, y) ((None, x) ∷ explicit_bound [] os)) q here))
      (all-placed (suc m) [] os (λ k. further m x os g k) (λ n r o a k. h n r o a (there k)))
  all-placed m (s ∷ rs) (x ∷ os) g h =
      let rest = cond (takes_many s) (s ∷ rs) rs in
      placed m (Some s) x (λ o q. h m (Some s) o (at-head m x os g o q) (subst (λ y. Among (Some s, y) ((Some s, x) ∷ explicit_bound rest os)) q here))
      (all-placed (suc m) rest os (λ k. further m x os g k) (λ n r o a k. h n r o a (there k)))
