-- The call keeps its promise: an output that is too short stays as it was, and one that holds the longest listing holds this one. Assumes nothing.
use Rattle.std.proofs.Common.{◌≡◌, refl, sym, ap, ◌∙◌, Ok, Err, List, [], ◌∷◌, ℕ, ◌≤◌, leb, length, length-append, arith}
use borrow.Author.Tests.{le-leb, leb-true}
use Rattle.definition.specs.Lists.{over}
use Rattle.definition.specs.Questions.{ask, accepted, refused, asked, number_of}
use Rattle.definition.specs.Job.{listing, longest_listing, job_answered, JobPromise}
use Rattle.definition.specs.declared.Refusal.{Refusal}
use Rattle.definition.proofs.Passing.{asked_accepted, asked_with, held}
use Rattle.listing.specs.Page.{Page, page, typed}
use Rattle.listing.proofs.Pages.{typed_over}
use Rattle.job.proofs.Longest.{listing_length}

-- a refusal that the one question gives
pub refused_kept : (bytes lent : List ℕ) {r : Refusal} → refused (number_of r.question) r.place ≡ asked (ask 7 0 (leb longest_listing (length lent)) ∷ []) (tt {0}) → JobPromise bytes lent (Err r) lent
unfolding job_answered
refused_kept bytes lent {r} h =
    let is : job_answered bytes lent ≡ refused (number_of r.question) r.place = asked_with (ask 7 0 (leb longest_listing (length lent)) ∷ []) (length (listing bytes)) h in
    record { answers = sym is; leaves = rw is refl }

pub room_kept : (lent : List ℕ) → accepted tt ≡ asked (ask 7 0 (leb longest_listing (length lent)) ∷ []) (tt {0}) → longest_listing ≤ length lent
room_kept lent h = leb-true _ _ (held 7 0 h)

pub listed_kept : (bytes lent : List ℕ) {after : List ℕ} {n : ℕ} → longest_listing ≤ length lent → page after n ≡ typed (page lent 0) (listing bytes) → JobPromise bytes lent (Ok n) after
unfolding job_answered asked
listed_kept bytes lent h e =
    let is : job_answered bytes lent ≡ accepted (length (listing bytes)) = rw (le-leb longest_listing (length lent) h) refl in
    let whole = e ∙ typed_over lent (listing bytes) (omega (arith, h, listing_length bytes)) in
    record { answers = ap (λ (p : Page). accepted p.at) whole ∙ sym is; leaves = rw is (ap (λ (p : Page). p.bytes) whole) }

-- a listing lies within its output
pub listed_within : (bytes lent : List ℕ) {n : ℕ} {after : List ℕ} → JobPromise bytes lent (Ok n) after → n ≤ length after
unfolding job_answered over
listed_within bytes lent {n} {after} h =
    let (_, size) = asked_accepted (ask 7 0 (leb longest_listing (length lent)) ∷ []) (sym h.answers) in
    let written : after ≡ over (listing bytes) lent = rw (← h.answers) at h.leaves in
    rw (written, length-append) (omega (arith, size))
