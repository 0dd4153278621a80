-- The end of a line before its comment.
use Rattle.std.proofs.Common.{◌≡◌, ℕ, ◌<◌, ◌≤◌, ◌+◌, List, [], ◌∷◌, ◌++◌, length, take, drop, Bool, true, false, refl, ap, sym, ◌∙◌, arith, get_or, not, append_assoc, append-nil, take_all}
use Rattle.std.specs.Prelude.{◌==◌, ◌&&◌, if◌then◌else◌}
use Rattle.std.proofs.lemmas.List.{drop_more, take_more, drop_all}
use Rattle.mir_lines.specs.Instructions.{uncommented, without_comment}

-- what has been kept, and what the rest keeps
pub record CommentGo (line : List ℕ) (k : ℕ) (quoted : Bool) : Type 0 where
  pub same : without_comment line ≡ take k line ++ uncommented quoted (drop k line)

pub comment_begin : (line : List ℕ) → CommentGo line 0 false
unfolding without_comment
comment_begin line = record { same = refl }

comment_step : (line : List ℕ) (k : ℕ) (quoted : Bool) → k < length line → (b : ℕ) → b ≡ get_or line k 0 → uncommented quoted (drop k line) ≡ (if b == 59 && not quoted then [] else b ∷ uncommented (if b == 34 then not quoted else quoted) (drop (k + 1) line))
comment_step line k quoted h b e = rw e (ap (uncommented quoted) (drop_more line k 0 h))

comment_more : (line : List ℕ) (k : ℕ) (quoted : Bool) → k < length line → (b : ℕ) → b ≡ get_or line k 0 → (b == 59 && not quoted) ≡ false → (new : Bool) → new ≡ (if b == 34 then not quoted else quoted) → uncommented quoted (drop k line) ≡ b ∷ uncommented new (drop (k + 1) line)
comment_more line k quoted h b e n new f = let s = comment_step line k quoted h b e in rw (s, n, f) refl

comment_last : (line : List ℕ) (k : ℕ) (quoted : Bool) → k < length line → (b : ℕ) → b ≡ get_or line k 0 → (b == 59 && not quoted) ≡ true → uncommented quoted (drop k line) ≡ []
comment_last line k quoted h b e n = let s = comment_step line k quoted h b e in rw (s, n) refl

regroup : (a : List ℕ) (x : ℕ) (u : List ℕ) → a ++ (x ∷ u) ≡ (a ++ x ∷ []) ++ u
regroup a x u = simp append_assoc

taken : (line : List ℕ) (k : ℕ) → k < length line → (b : ℕ) → b ≡ get_or line k 0 → take k line ++ b ∷ [] ≡ take (k + 1) line
taken line k h b e = rw e (sym (take_more line k 0 h))

pub comment_go : (line : List ℕ) (k : ℕ) (quoted : Bool) → CommentGo line k quoted → k < length line → (b : ℕ) → b ≡ get_or line k 0 → (b == 59 && not quoted) ≡ false → (new : Bool) → new ≡ (if b == 34 then not quoted else quoted) → CommentGo line (k + 1) new
comment_go line k quoted go h b e n new f =
    let u = uncommented new (drop (k + 1) line) in
    record {
      same = go.same
          ∙ ap (λ (xs : List ℕ). take k line ++ xs) (comment_more line k quoted h b e n new f)
          ∙ regroup (take k line) b u
          ∙ ap (λ (xs : List ℕ). xs ++ u) (taken line k h b e);
    }

pub comment_found : (line : List ℕ) (k : ℕ) (quoted : Bool) → CommentGo line k quoted → k < length line → (b : ℕ) → b ≡ get_or line k 0 → (b == 59 && not quoted) ≡ true → take k line ≡ without_comment line
comment_found line k quoted go h b e n =
    sym (go.same ∙ ap (λ (xs : List ℕ). take k line ++ xs) (comment_last line k quoted h b e n) ∙ append-nil (take k line))

pub comment_none : (line : List ℕ) (k : ℕ) (quoted : Bool) → CommentGo line k quoted → length line ≤ k → take (length line) line ≡ without_comment line
comment_none line k quoted go h =
    take_all (length line) line (omega arith)
    ∙ sym (go.same ∙ ap (λ (xs : List ℕ). take k line ++ uncommented quoted xs) (drop_all k line h) ∙ append-nil (take k line) ∙ take_all k line h)
