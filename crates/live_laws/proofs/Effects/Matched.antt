-- A step moves a lane into the one lane whose writing says so.
use Rattle.std.proofs.Common.{◌≡◌, ◌⊎◌, ℕ, Bool, true, false, cond, List, [], ◌∷◌, ◌++◌, Option, Some, None, map, refl, sym, ap, ◌∙◌, subst, inl, inr, eqb-true, eq-eqb}
use Rattle.std.specs.Prelude.{nat_eq, option_and_then}
use Rattle.std.specs.List.{cons_option}
use Rattle.meaning.specs.declared.types.Lane.{Lane}
use Rattle.meaning.specs.declared.types.Source.{Source}
use Rattle.meaning.specs.declared.types.Source.TheVariants.{FromLane}
use Rattle.meaning.specs.declared.types.Fill.TheVariants.{Moved}
use Rattle.meaning.specs.declared.types.Write.{Write}
use Rattle.meaning.specs.Lanes.{Writes, Reads}
use Rattle.meaning.specs.Live.{Among as Member, here as first, there as later}
use Rattle.mir_meaning.specs.Items.{write, moved, undefined}
use Rattle.mir_meaning.specs.declared.writing.LaneDef.{LaneDef}
use Rattle.mir_meaning.specs.Paths.{Step, has, writing_of, is_some_number, Unused, Certain, Into, move_of, use_of, IsMatched}
use Rattle.instr_effects.specs.declared.owner.Owner.{Owner}
use Rattle.instr_effects.specs.Owners.{owner_of, fill_owner, owners_read}
use Rattle.instr_effects.specs.Acts.{act_of, acts_of}
use Rattle.instr_effects.specs.Steps.{Numbering, writing, act_writings}
use Rattle.instr_effects.specs.Stepping.{step_of}
use Rattle.instr_effects.proofs.Members.{member-none, member-elim, in-either, map-in}
use Rattle.live_laws.proofs.Effects.Moving.{some-same, source-from}
use Rattle.live_laws.proofs.Effects.Moved.{Apart, moved-of, undefined-fill, move-once}

-- writings that move lanes are the first of their lanes, and each lane is moved into one
pub record IsClear (ws : List LaneDef) : Type 0 where
  pub first : (w : LaneDef) (l : ℕ) → Member w ws → w.from ≡ Some l → writing_of w.lane ws ≡ Some w
  pub one : (v w : LaneDef) (l : ℕ) → Member v ws → Member w ws → v.from ≡ Some l → w.from ≡ Some l → v.lane ≡ w.lane

written-of : (a : ℕ) (w : LaneDef) (ws : List LaneDef) → writing_of a ws ≡ Some w → Member w ws × (w.lane ≡ a)
written-of a w [] e = absurd (cc)
written-of a w (v ∷ ws) e = go (nat_eq v.lane a) refl e (written-of a w ws)
  where
    go : (q : Bool) → nat_eq v.lane a ≡ q → cond q (Some v) (writing_of a ws) ≡ Some w → (writing_of a ws ≡ Some w → Member w ws × (w.lane ≡ a)) → Member w (v ∷ ws) × (w.lane ≡ a)
    go true f g ih = let same : v ≡ w = some-same v w g in (subst (λ x. Member w (x ∷ ws)) (sym same) first, ap (λ x. x.lane) (sym same) ∙ eqb-true v.lane a f)
    go false f g ih = let z = ih g in (later z.0, z.1)

is-number : (l : ℕ) (q : Option ℕ) → is_some_number l q ≡ true → q ≡ Some l
is-number l None e = absurd (cc)
is-number l (Some k) e = ap Some (eqb-true k l e)

into-same : (a c : ℕ) → Into a ≡ Into c → a ≡ c
into-same a c e = cc

moved-from : (l a : ℕ) (ws : List LaneDef) → move_of l ws ≡ Into a → (w : LaneDef) × Member w ws × (w.from ≡ Some l) × (w.lane ≡ a)
moved-from l a [] e = absurd (cc)
moved-from l a (v ∷ ws) e = go (is_some_number l v.from) refl e (moved-from l a ws)
  where
    go : (q : Bool) → is_some_number l v.from ≡ q → cond q (Into v.lane) (move_of l ws) ≡ Into a → (move_of l ws ≡ Into a → (w : LaneDef) × Member w ws × (w.from ≡ Some l) × (w.lane ≡ a)) → (w : LaneDef) × Member w (v ∷ ws) × (w.from ≡ Some l) × (w.lane ≡ a)
    go true f g ih = (v, first, is-number l v.from f, into-same v.lane a g)
    go false f g ih = let z = ih g in (z.0, later z.1, z.2, z.3)

moved-in : (l : ℕ) (w : LaneDef) (ws : List LaneDef) → Member w ws → w.from ≡ Some l → move_of l ws ≡ Unused → ⊥
moved-in l w [] m e = λ u. member-none w m
moved-in l w (v ∷ ws) m e =
    member-elim w v ws (λ f u. at (is_some_number l v.from) (ap (is_some_number l) (ap (λ x. x.from) (sym f) ∙ e) ∙ eq-eqb l l refl) u) (λ k u. past (is_some_number l v.from) u (moved-in l w ws k e)) m
  where
    at : (q : Bool) → q ≡ true → cond q (Into v.lane) (move_of l ws) ≡ Unused → ⊥
    at true f u = cc
    at false f u = cc

    past : (q : Bool) → cond q (Into v.lane) (move_of l ws) ≡ Unused → (move_of l ws ≡ Unused → ⊥) → ⊥
    past true u ih = cc
    past false u ih = ih u

pub clear-matched : (s : Step) → IsClear s.writes → IsMatched s
clear-matched s clear = record {
  filled = λ l a u. let z = moved-from l a s.writes (moving l a u) in (z.0, subst (λ x. writing_of x s.writes ≡ Some z.0) z.3 (clear.first z.0 l z.1 z.2), z.2);
  used = λ l a w e f u. let z = written-of a w s.writes e in unused l w z.0 f u;
  once = λ l a c w e f u. let z = written-of a w s.writes e in let y = moved-from l c s.writes (moving l c u) in sym y.3 ∙ clear.one y.0 w l y.1 z.0 y.2 f ∙ z.1;
}
  where
    moving : (l a : ℕ) → use_of l s ≡ Into a → move_of l s.writes ≡ Into a
    moving l a u = go (has l s.reads) u
      where
        go : (q : Bool) → cond q Certain (move_of l s.writes) ≡ Into a → move_of l s.writes ≡ Into a
        go true e = absurd (cc)
        go false e = e

    unused : (l : ℕ) (w : LaneDef) → Member w s.writes → w.from ≡ Some l → use_of l s ≡ Unused → ⊥
    unused l w m f u = go (has l s.reads) u
      where
        go : (q : Bool) → cond q Certain (move_of l s.writes) ≡ Unused → ⊥
        go true e = cc
        go false e = moved-in l w s.writes m f e

-- writings of acts

written-act : (num : Numbering) (v : LaneDef) (ws : Writes) → Member v (act_writings num (acts_of ws)) → (w : Write) × (n : ℕ) × Member w ws × (num (owner_of w.lane) ≡ Some n) × (v ≡ writing num (act_of w) n)
written-act num v [] m = absurd (member-none v m)
written-act num v (w ∷ ws) m = go (num (owner_of w.lane)) refl m (written-act num v ws)
  where
    go : (q : Option ℕ) → num (owner_of w.lane) ≡ q → Member v (cons_option (elim q [ None ↦ None | Some n ↦ Some (writing num (act_of w) n) ]) (act_writings num (acts_of ws))) → (Member v (act_writings num (acts_of ws)) → (x : Write) × (n : ℕ) × Member x ws × (num (owner_of x.lane) ≡ Some n) × (v ≡ writing num (act_of x) n)) → (x : Write) × (n : ℕ) × Member x (w ∷ ws) × (num (owner_of x.lane) ≡ Some n) × (v ≡ writing num (act_of x) n)
    go None e k ih = let z = ih k in (z.0, z.1, later z.2, z.3, z.4)
    go (Some n) e k ih = member-elim v (writing num (act_of w) n) (act_writings num (acts_of ws)) (λ f. (w, n, first, e, f)) (λ j. let z = ih j in (z.0, z.1, later z.2, z.3, z.4)) k

-- a step that moves nothing
pub plain-matched : (num : Numbering) (id : ℕ) (leaves : Bool) (rs : Reads) (ws : Writes) → ((w : Write) → Member w ws → fill_owner w.fill ≡ None) → IsMatched (step_of num id leaves rs ws)
plain-matched num id leaves rs ws none = clear-matched (step_of num id leaves rs ws) (record { first = λ w l m e. absurd (moves w l m e); one = λ v w l m k e f. absurd (moves v l m e) })
  where
    moves : (v : LaneDef) (l : ℕ) → Member v (act_writings num (acts_of ws)) → v.from ≡ Some l → ⊥
    moves v l m e =
        let z = written-act num v ws m in
        let f : None ≡ Some l = sym (ap (option_and_then num) (none z.0 z.2)) ∙ sym (ap (λ x. x.from) z.4) ∙ e in
        cc

-- the first writing of a lane that is moved is the move
first-written : (num : Numbering) → ((o p : Owner) (n : ℕ) → num o ≡ Some n → num p ≡ Some n → o ≡ p) → (early : Bool) (ds : List Lane) (ss : List Source) (vs : Writes) (w : Write) (n : ℕ) → Apart (map owner_of ds) → Member w (moved early ds ss) → num (owner_of w.lane) ≡ Some n → writing_of n (act_writings num (acts_of (moved early ds ss ++ vs))) ≡ Some (writing num (act_of w) n)
first-written num names early [] ss vs w n p m e = absurd (member-none w m)
first-written num names early (d ∷ ds) [] vs w n p m e = absurd (member-none w m)
first-written num names early (d ∷ ds) (s ∷ ss) vs w n p m e =
    member-elim w (write early d (Moved s)) (moved early ds ss) (λ f. at w f (num (owner_of d)) (ap (λ x. num (owner_of x.lane)) (sym f) ∙ e)) (λ k. past k (num (owner_of d)) refl (first-written num names early ds ss vs w n p.1 k e)) m
  where
    rest : List LaneDef
    rest = act_writings num (acts_of (moved early ds ss ++ vs))

    at : (x : Write) → x ≡ write early d (Moved s) → (q : Option ℕ) → q ≡ Some n → writing_of n (cons_option (elim q [ None ↦ None | Some k ↦ Some (writing num (act_of (write early d (Moved s))) k) ]) rest) ≡ Some (writing num (act_of x) n)
    at x f None g = absurd (cc)
    at x f (Some k) g =
        let same : k ≡ n = some-same k n g in
        ap (λ b. cond b (Some (writing num (act_of (write early d (Moved s))) k)) (writing_of n rest)) (eq-eqb k n same)
        ∙ ap (λ j. Some (writing num (act_of (write early d (Moved s))) j)) same
        ∙ ap (λ y. Some (writing num (act_of y) n)) (sym f)

    past : Member w (moved early ds ss) → (q : Option ℕ) → num (owner_of d) ≡ q → writing_of n rest ≡ Some (writing num (act_of w) n) → writing_of n (cons_option (elim q [ None ↦ None | Some k ↦ Some (writing num (act_of (write early d (Moved s))) k) ]) rest) ≡ Some (writing num (act_of w) n)
    past k None g ih = ih
    past k (Some j) g ih = by (nat_eq j n) refl
      where
        by : (b : Bool) → nat_eq j n ≡ b → cond b (Some (writing num (act_of (write early d (Moved s))) j)) (writing_of n rest) ≡ Some (writing num (act_of w) n)
        by false h = ih
        by true h =
            let same : owner_of d ≡ owner_of w.lane = names (owner_of d) (owner_of w.lane) n (g ∙ ap Some (eqb-true j n h)) e in
            let y = moved-of early w ds ss k in
            absurd (p.0 (subst (λ o. Member o (map owner_of ds)) (sym same) (map-in owner_of w.lane ds y.1)))

-- a step that gives lanes their sources
pub given-matched : (num : Numbering) → ((o p : Owner) (n : ℕ) → num o ≡ Some n → num p ≡ Some n → o ≡ p) → (id : ℕ) (early : Bool) (ds : List Lane) (ss : List Source) (us : List Lane) → Apart (map owner_of ds) → Apart (owners_read ss) → IsMatched (step_of num id false [] (moved early ds ss ++ undefined early us))
given-matched num names id early ds ss us apart once = clear-matched (step_of num id false [] (moved early ds ss ++ undefined early us)) (record { first = λ v l m e. firsts v l m e; one = λ v w l m k e f. ones v w l m k e f })
  where
    from-lane : (v : LaneDef) (l : ℕ) → Member v (act_writings num (acts_of (moved early ds ss ++ undefined early us))) → v.from ≡ Some l → (w : Write) × (n : ℕ) × (a : Lane) × Member w (moved early ds ss) × (num (owner_of w.lane) ≡ Some n) × (v ≡ writing num (act_of w) n) × (w.fill ≡ Moved (FromLane a)) × (num (owner_of a) ≡ Some l)
    from-lane v l m e =
        let z = written-act num v (moved early ds ss ++ undefined early us) m in
        let f = source-from num z.0 l (sym (ap (λ x. x.from) z.4) ∙ e) in
        (z.0, z.1, f.0, part z.0 f.0 f.1 (in-either z.0 (moved early ds ss) (undefined early us) z.2), z.3, z.4, f.1, f.2)
      where
        part : (w : Write) (a : Lane) → w.fill ≡ Moved (FromLane a) → Member w (moved early ds ss) ⊎ Member w (undefined early us) → Member w (moved early ds ss)
        part w a g (inl k) = k
        part w a g (inr k) = absurd (let h = sym (undefined-fill early w us k) ∙ g in cc)

    firsts : (v : LaneDef) (l : ℕ) → Member v (act_writings num (acts_of (moved early ds ss ++ undefined early us))) → v.from ≡ Some l → writing_of v.lane (act_writings num (acts_of (moved early ds ss ++ undefined early us))) ≡ Some v
    firsts v l m e =
        let z = from-lane v l m e in
        let h = first-written num names early ds ss (undefined early us) z.0 z.1 apart z.3 z.4 in
        ap (λ n. writing_of n (act_writings num (acts_of (moved early ds ss ++ undefined early us)))) (ap (λ x. x.lane) z.5) ∙ h ∙ ap Some (sym z.5)

    ones : (v w : LaneDef) (l : ℕ) → Member v (act_writings num (acts_of (moved early ds ss ++ undefined early us))) → Member w (act_writings num (acts_of (moved early ds ss ++ undefined early us))) → v.from ≡ Some l → w.from ≡ Some l → v.lane ≡ w.lane
    ones v w l m k e f =
        let z = from-lane v l m e in
        let y = from-lane w l k f in
        let same = move-once early z.2 y.2 z.0.lane y.0.lane ds ss once (z.0, z.3, refl, z.6) (y.0, y.3, refl, y.6) (names (owner_of z.2) (owner_of y.2) l z.7 y.7) in
        let number : z.1 ≡ y.1 = some-same z.1 y.1 (sym z.4 ∙ ap num same ∙ y.4) in
        ap (λ x. x.lane) z.5 ∙ number ∙ sym (ap (λ x. x.lane) y.5)
