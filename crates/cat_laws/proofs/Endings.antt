-- Where gathering ends over what is told; and of what is gathered and read, how long names and sources are.
use Rattle.std.proofs.Common.{◌≡◌, ◌≤◌, ◌+◌, ◌∙◌, ℕ, List, length, sym, ap, subst, inl, inr, ⊎_elim, arith}
use Rattle.cat_pos.specs.Limits.{most_file_bytes}
use Rattle.cat_io.specs.Shelf.{Shelved}
use Rattle.cat_weave.specs.declared.source.Source.{Source}
use Rattle.cat_weave.specs.Gathered.{Contents, Ending, Whole, Refused, StopsAt, gathered}
use Rattle.cat_weave.specs.Causes.{AreReadableTogether, HasEnding}
use Rattle.cat_weave.proofs.SameLemmas.{IsStop, gathered_same}
use Rattle.cat_weave.proofs.StopLemmas.{IsUnknownStop, gathered_stop}
use Rattle.cat_app.specs.Words.{Request}
use Rattle.cat_app.specs.Asked.{IsReadNow}
use Rattle.cat_laws.specs.Told.{IsRun, IsTold, TellsRun, TellsAll}
use Rattle.cat_laws.proofs.Names.{Leads, gathered_leads}

no_stop : {T : Type 0} (ending end : Ending T) → ending ≡ end → IsTold end → IsStop ending → ⊥
no_stop ending (Whole x) is told stop = subst (λ e. IsStop e) is stop
no_stop ending (Refused refusal) is told stop = subst (λ e. IsStop e) is stop
no_stop ending (StopsAt name bytes) is told stop = told

-- where gathering hangs on nothing that isn't told, it ends so whatever else files hold
pub ending_is : (contents : Contents) (main : List ℕ) (end ending : Ending Source) → gathered contents main ≡ end
    → IsTold end → HasEnding contents main ending → ending ≡ end
ending_is contents main end ending is told has =
    ⊎_elim (λ same. sym has.2 ∙ (sym same ∙ is))
    (λ stop. absurd (no_stop (gathered contents main) end is told stop)) (gathered_same contents has.0 main has.1)

-- no name that is read is longer than this
abbrev pub longest_name : Request → ℕ
longest_name request = length request.file + (most_file_bytes + length request.extra)

leads_at : (contents : Contents) (request : Request)
    → Leads (longest_name request) (λ source. AreReadableTogether source.pieces) (gathered contents request.file)
leads_at contents request =
    gathered_leads (longest_name request) (omega arith) contents request.file (omega arith)

stop_short : (contents : Contents) (request : Request) (name : List ℕ) (bytes : ℕ)
    → gathered contents request.file ≡ StopsAt name bytes → length name ≤ longest_name request
stop_short contents request name bytes is =
    subst (λ (e : Ending Source). Leads (longest_name request) (λ source. AreReadableTogether source.pieces) e) is
    (leads_at contents request)

pub source_readable : (contents : Contents) (request : Request) (source : Source)
    → gathered contents request.file ≡ Whole source → AreReadableTogether source.pieces
source_readable contents request source is =
    subst (λ (e : Ending Source). Leads (longest_name request) (λ s. AreReadableTogether s.pieces) e) is
    (leads_at contents request)

pub name_short : (request : Request) (shelf : Shelved) (name : List ℕ) (limit : ℕ)
    → IsReadNow request shelf name limit → length name ≤ longest_name request
name_short request shelf name limit (inl now) = stop_short now.1.0 request name now.0 now.1.2
name_short request shelf name limit (inr now) = omega (arith, ap (λ (n : List ℕ). length n) now.0)

-- a shelf that tells every file tells what a run reads
pub all_told : (shelf : Shelved) → TellsAll shelf → (request : Request) → IsRun request → TellsRun shelf request
all_told shelf told request runs = record {
  mode = runs;
  source = ended (gathered shelf.content request.file) (gathered_stop shelf.content request.file);
  input = λ source program scope asked. told request.extra;
}
  where
    ended : (end : Ending Source) → IsUnknownStop shelf.content end → IsTold end
    ended (Whole source) unknown = tt
    ended (Refused refusal) unknown = tt
    ended (StopsAt name bytes) unknown = cc (unknown, told name)
