-- The machine reads exactly what the text reads as, and reports exactly its fault.
use Rattle.std.proofs.Common.{◌≡◌, ◌≢◌, ℕ, ◌⊎◌, inl, inr, List, [], ◌∷◌, ◌++◌, length, Option, Some, None, Result, Ok, Err, is_some, if◌then◌else◌, refl, sym, ◌∙◌, ap, subst, append_assoc}
use Rattle.std.proofs.lemmas.List.{map-append}
use Rattle.erl_number.specs.declared.fault.TermFault.{TermFault}
use Rattle.erl_number.specs.declared.fault.TermFault.TheVariants.{Unclosed, NoMemory}
use Rattle.erl_token.specs.Lexing.{Token, Item, items_of}
use Rattle.erl_token.specs.Lexing.Token.{dot, broken, cut}
use Rattle.std.specs.Prelude.{IfOk, IfErr, Vec}
use Rattle.std.specs.declared.alloc.Global.{Global}
use Rattle.erl_term.specs.declared.term.Spanned.{Spanned}
use Rattle.erl_term.specs.Answers.{readings, IsOnly, ReportsFault}
use Rattle.erl_term.specs.Views.{GivesTerms}
use Rattle.erl_term.specs.Grammar.{Phrase, tokens, Reading, Reads}
use Rattle.erl_term.specs.Faults.{rows, Fit, MayCome, Reports, ReportsOwn, ReportsCut, ReportsPlace, IsMisplaced, ReportsEnd, IsFault}
use Rattle.erl_term.specs.Machine.{State, Progress, kind_of, next, refusal, misplaced, cut_off, or_refusal, and_then, run, at_kind, at_end, finished, nothing_read, reading_of}
use Rattle.erl_term.specs.Machine.State.{begun, whole, inside}
use Rattle.erl_term.proofs.Passes.{progress, reads_terms}
use Rattle.erl_term.proofs.Viability.{plain, terms_are_rows, rows_are_terms, reads_only, runs_viable, may_come, may_not_come}
use Rattle.erl_term.proofs.Innermost.{inside_innermost, begun_has_none, whole_has_none}
use Rattle.erl_term.proofs.Refusals.{place_reports}

-- the end within what begins after these reports the machine's fault
cut_reports : (limit : ℕ) (is : List Item) (p : Progress) (at : ℕ) → run limit nothing_read is ≡ Ok p → ReportsCut is at (cut_off p.state at)
cut_reports limit is p at e = go p.state e
  where
    go : (s : State) → run limit nothing_read is ≡ Ok (progress p.done s) → ReportsCut is at (cut_off s at)
    go begun e = inr (begun_has_none limit is p.done e, refl)
    go (whole r) e = inr (whole_has_none limit is p.done r e, refl)
    go (inside slot l ls) e = let (i, innermost, from) = inside_innermost limit is p.done slot l ls e in inl (i, innermost, ap Unclosed (sym from))

-- a token that may not come has the fault that the machine reports
refusal_reports : (limit : ℕ) (is : List Item) (p : Progress) (i : Item) → run limit nothing_read is ≡ Ok p
    → Reports limit is i (refusal limit p i.token i.from)
refusal_reports limit is p i e = go i.token refl (place_reports limit is p i e)
  where
    own_or_place : (like : Token) (Own : TermFault → Type 0) (own place : TermFault) (o : Option Progress) → at_kind limit p.done p.state (kind_of like) 0 0 ≡ o
        → Own own → ReportsPlace limit (tokens is) i place
        → (MayCome limit (tokens is) like × Own (if is_some o then own else place))
        ⊎ ((MayCome limit (tokens is) like → ⊥) × ReportsPlace limit (tokens is) i (if is_some o then own else place))
    own_or_place like Own own place (Some q) h reported reports = inl (may_come limit is p q (plain like) e h, reported)
    own_or_place like Own own place None h reported reports = inr (may_not_come limit is p (plain like) e h, reports)

    go : (t : Token) → i.token ≡ t → ReportsPlace limit (tokens is) i (misplaced p.state t i.from)
        → ReportsOwn limit is i.from t (refusal limit p t i.from) ⊎ (IsMisplaced limit (tokens is) t × ReportsPlace limit (tokens is) i (refusal limit p t i.from))
    go (broken like own) h place =
        own_or_place like (λ f. f ≡ own) own (misplaced p.state (broken like own) i.from) (at_kind limit p.done p.state (kind_of like) 0 0) refl refl place
    go (cut like) h place =
        own_or_place like (ReportsCut is i.from) (cut_off p.state i.from) (misplaced p.state (cut like) i.from) (at_kind limit p.done p.state (kind_of like) 0 0) refl
        (cut_reports limit is p i.from e) place
    go t h place = inr (tt, place)

-- where the machine stops within a row
pub record Stops (limit : ℕ) (p : Progress) (is : List Item) (f : TermFault) : Type 0 where
  pub before : List Item
  pub item : Item
  pub after : List Item
  pub seen : Progress
  pub split : is ≡ before ++ (item ∷ after)
  pub runs : run limit p before ≡ Ok seen
  pub refused : next limit seen item ≡ None
  pub reported : f ≡ refusal limit seen item.token item.from

stops : (limit : ℕ) (p : Progress) (is : List Item) (f : TermFault) → run limit p is ≡ Err f → Stops limit p is f
stops limit p [] f e = absurd (cc)
stops limit p (i ∷ is) f e = go (λ q. stops limit q is f) (next limit p i) refl e
  where
    go : ((q : Progress) → run limit q is ≡ Err f → Stops limit q is f) → (o : Option Progress) → next limit p i ≡ o
        → and_then (or_refusal limit p i o) (λ q. run limit q is) ≡ Err f → Stops limit p (i ∷ is) f
    go more (Some q) n e =
        let s = more q e in
        record {
          before = i ∷ s.before;
          item = s.item;
          after = s.after;
          seen = s.seen;
          split = ap (λ y. i ∷ y) s.split;
          runs = ap (λ o. and_then (or_refusal limit p i o) (λ q. run limit q s.before)) n ∙ s.runs;
          refused = s.refused;
          reported = s.reported;
        }
    go more None n e = record { before = []; item = i; after = is; seen = p; split = refl; runs = refl; refused = n; reported = sym (err_same e) }
      where
        err_same : {x y : TermFault} → (let r : Result Progress TermFault = Err x in r) ≡ Err y → x ≡ y
        err_same e = cc

-- where the text ends too early
end_reports : (limit size : ℕ) (is : List Item) (done : List Reading) (s : State) (f : TermFault) → run limit nothing_read is ≡ Ok (progress done s)
    → at_end size done s ≡ Err f → ReportsEnd limit size is f
end_reports limit size is done begun f e h = absurd (cc)
end_reports limit size is done (whole r) f e h = inl (may_come limit is (progress done (whole r)) _ (plain dot) e refl, (cc))
end_reports limit size is done (inside slot l ls) f e h =
    let (i, innermost, from) = inside_innermost limit is done slot l ls e in
    inr (i, innermost, reported (sym h) ∙ ap Unclosed (sym from))
  where
    reported : {x y : TermFault} → (let r : Result (List Reading) TermFault = Err x in r) ≡ Err y → x ≡ y
    reported e = cc

unfinished : (limit size : ℕ) (is : List Item) (done : List Reading) (s : State) (f : TermFault) → run limit nothing_read is ≡ Ok (progress done s)
    → at_end size done s ≡ Err f → (ps : List Phrase) → Fit limit ps → tokens is ≢ rows ps
unfinished limit size is done s f e h ps fit spelled =
    let (rs, terms) = rows_are_terms limit is ps fit spelled in
    let never : Ok rs ≡ Err f = sym (ap (finished size) (reads_terms limit is rs [] terms)) ∙ (ap (finished size) e ∙ h) in
    cc

pub ok_reads : (limit : ℕ) (bytes : List ℕ) (rs : List Reading) → reading_of limit bytes ≡ Ok rs → Reads limit bytes rs
ok_reads limit bytes rs e = go (run limit nothing_read (items_of bytes)) refl e
  where
    ended : (done : List Reading) (s : State) → run limit nothing_read (items_of bytes) ≡ Ok (progress done s) → at_end (length bytes) done s ≡ Ok rs
        → Reads limit bytes rs
    ended done begun h e =
        let same : done ≡ rs = cc in
        reads_only limit (items_of bytes) rs (h ∙ ap (λ d. Ok (progress d begun)) same)
    ended done s h e = absurd (cc)

    go : (r : Result Progress TermFault) → run limit nothing_read (items_of bytes) ≡ r → finished (length bytes) r ≡ Ok rs → Reads limit bytes rs
    go (Ok p) h e = ended p.done p.state h e
    go (Err g) h e = absurd (cc)

pub reads_ok : (limit : ℕ) (bytes : List ℕ) (rs : List Reading) → Reads limit bytes rs → reading_of limit bytes ≡ Ok rs
reads_ok limit bytes rs h = ap (finished (length bytes)) (reads_terms limit (items_of bytes) rs [] h)

pub err_is_fault : (limit : ℕ) (bytes : List ℕ) (f : TermFault) → reading_of limit bytes ≡ Err f → IsFault limit bytes f
err_is_fault limit bytes f e = go (run limit nothing_read (items_of bytes)) refl e
  where
    go : (r : Result Progress TermFault) → run limit nothing_read (items_of bytes) ≡ r → finished (length bytes) r ≡ Err f → IsFault limit bytes f
    go (Ok p) h e = inr (
      runs_viable limit (items_of bytes) p h,
      unfinished limit (length bytes) (items_of bytes) p.done p.state f h e,
      end_reports limit (length bytes) (items_of bytes) p.done p.state f h e,
    )
    go (Err g) h e =
        let same : g ≡ f = cc in
        let s = stops limit nothing_read (items_of bytes) f (h ∙ (λ j. Err (same j))) in
        inl (
          s.before,
          s.after,
          s.item,
          s.split,
          runs_viable limit s.before s.seen s.runs,
          may_not_come limit s.before s.seen s.item s.runs s.refused,
          subst (λ f. Reports limit s.before s.item f) (sym s.reported) (refusal_reports limit s.before s.seen s.item s.runs),
        )

-- No text has two readings.
pub one_reading : (limit : ℕ) (bytes : List ℕ) (a b : List Reading) → Reads limit bytes a → Reads limit bytes b → a ≡ b
one_reading limit bytes a b p q = let same : Ok a ≡ Ok b = sym (reads_ok limit bytes a p) ∙ reads_ok limit bytes b q in cc

-- No text both reads and has a fault.
pub never_both : (limit : ℕ) (bytes : List ℕ) (rs : List Reading) (f : TermFault) → Reads limit bytes rs → IsFault limit bytes f → ⊥
never_both limit bytes rs f h (inl (before, after, i, split, viable, may_not, reports)) =
    let (ps, fit, spelled) = terms_are_rows limit (items_of bytes) rs h in
    may_not (tokens after, ps, fit, append_assoc (tokens before) (i.token ∷ []) (tokens after) ∙ (sym (map-append (λ i. i.token) before (i ∷ after)) ∙ (ap tokens (sym split) ∙ spelled)))
never_both limit bytes rs f h (inr (viable, unfinished, reports)) =
    let (ps, fit, spelled) = terms_are_rows limit (items_of bytes) rs h in unfinished ps fit spelled

-- Each text reads or has a fault.
pub reads_or_fault : (limit : ℕ) (bytes : List ℕ) → ((rs : List Reading) × Reads limit bytes rs) ⊎ ((f : TermFault) × IsFault limit bytes f)
reads_or_fault limit bytes = go (reading_of limit bytes) refl
  where
    go : (r : Result (List Reading) TermFault) → reading_of limit bytes ≡ r → ((rs : List Reading) × Reads limit bytes rs) ⊎ ((f : TermFault) × IsFault limit bytes f)
    go (Ok rs) e = inl (rs, ok_reads limit bytes rs e)
    go (Err f) e = inr (f, err_is_fault limit bytes f e)

-- The clauses of a reader, from what the machine reads.
pub reads_found : (limit : ℕ) (bytes : List ℕ) (r : Result (Vec Spanned Global) TermFault) → GivesTerms r (reading_of limit bytes)
    → IfOk r (λ v. Reads limit bytes (readings v))
reads_found limit bytes (Ok v) h = ok_reads limit bytes (readings v) h
reads_found limit bytes (Err f) h = tt

pub reads_only_these : (limit : ℕ) (bytes : List ℕ) (r : Result (Vec Spanned Global) TermFault) → GivesTerms r (reading_of limit bytes)
    → (rs : List Reading) → Reads limit bytes rs → IsOnly rs r
reads_only_these limit bytes (Ok v) h rs reads =
    let same : Ok (readings v) ≡ Ok rs = sym h ∙ reads_ok limit bytes rs reads in
    cc
reads_only_these limit bytes (Err NoMemory) h rs reads = refl
reads_only_these limit bytes (Err f) h rs reads = absurd (let never : Ok rs ≡ Err f = sym (reads_ok limit bytes rs reads) ∙ h in cc)

pub reads_fault : (limit : ℕ) (bytes : List ℕ) (r : Result (Vec Spanned Global) TermFault) → GivesTerms r (reading_of limit bytes)
    → IfErr r (ReportsFault limit bytes)
reads_fault limit bytes (Ok v) h = tt
reads_fault limit bytes (Err NoMemory) h = tt
reads_fault limit bytes (Err f) h = err_is_fault limit bytes f h
