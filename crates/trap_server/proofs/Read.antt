-- What was read.
use Rattle.std.proofs.Common.{◌≡◌, ◌≤◌, ◌<◌, ◌+◌, ◌/◌, arith, inl, inr, ℕ, refl, List, [], ◌∷◌, ◌++◌, Ok, Err, Result, Option, length, subst}
use Rattle.std.specs.Result.{IfOk, IfErr}
use Rattle.std.specs.Io.KnownBytes.{Appends, Consumes}
use Rattle.std.proofs.Common.{take_all}
use Rattle.platforms.specs.Platform.{PlatformLayout}
use Rattle.platforms.specs.CheckLists.{AllPass, FailsFirst}
use Rattle.platforms.specs.declared.platform.PlatformFault.{PlatformFault}
use Rattle.trap_server.specs.declared.frame_fault.FrameFault.{FrameFault}
use Rattle.trap_server.specs.declared.frame_fault.FrameFault.TheVariants as faults
use Rattle.trap_server.specs.declared.end.EndReason.{EndReason}
use Rattle.trap_server.specs.FrameBytes.{Filled}
use Rattle.trap_server.specs.PageDigest.{ArePages, Asks, IsNoPage, IsPageFrame, Measures, ReadsPage, question_of}
use Rattle.trap_server.specs.Traps.{CountsWrite}
use Rattle.measurement.specs.declared.request.Create.{Create}
use Rattle.std.proofs.KnownBytes.{Consumes-trans}
use Rattle.trap_server.specs.Platforms.{IsNoPlatform, IsPlatformFrame, ReadsPlatform}

-- where none of those before is
pub fails_after : (front more : List (PlatformFault × Type 0)) (fault : PlatformFault) → AllPass front → FailsFirst more fault
    → FailsFirst (front ++ more) fault
fails_after [] more fault pass fails = fails
fails_after (rule ∷ rules) more fault pass fails = inr (pass.0, fails_after rules more fault pass.1 fails)

-- a buffer that was filled left the source whole
pub whole : (n : ℕ) (buffer : List ℕ) (before after : Option (List ℕ)) → length buffer ≤ n → Filled n buffer before after → Consumes before after buffer
whole n buffer before after all filled = subst (Consumes before after) (take_all n buffer all) filled.consumed

-- a frame that was read whole and is not that of the page
pub other_frame :
    (n page : ℕ) (frame : List ℕ) (before after : Option (List ℕ)) → length frame ≡ 4112 → 4112 ≤ n → Filled n frame before after
    → ((bytes : List ℕ) → IsPageFrame frame page bytes → ⊥)
    → (read : List ℕ) × IsNoPage read page after × Consumes before after read
other_frame n page frame before after size all filled not = (frame, inl (size, not), whole n frame before after (omega (arith, size, all)) filled)

-- a page that was not read ends the measurement
pub page_stops :
    (fault : FrameFault) (parts : Create) (k : ℕ) (bytes read : List ℕ) (pages : List (List ℕ)) (before now after : Option (List ℕ))
    → k < parts.text_pages + parts.data_pages
    → ArePages (parts.base / 4096) k read pages → Consumes before now read → ReadsPage (Err fault) (parts.base / 4096 + k) bytes now after
    → Measures (Err fault) parts before after
page_stops faults.NotUnderstood parts k bytes read pages before now after more are came reads =
    (read ++ reads.0, (k, more, read, reads.0, pages, are, reads.1, refl), Consumes-trans before now after read reads.0 came reads.2)
page_stops faults.Read parts k bytes read pages before now after more are came reads =
    (read ++ reads.0, (k, more, read, reads.0, pages, are, reads.1, refl), Consumes-trans before now after read reads.0 came reads.2)
page_stops faults.Write parts k bytes read pages before now after more are came reads = absurd reads

-- and is no failed write
pub page_writes :
    (fault : FrameFault) (page : ℕ) (bytes : List ℕ) (before after : Option (List ℕ)) (failures failed stalls stalled : ℕ)
    → ReadsPage (Err fault) page bytes before after
    → (failed ≡ failures) × (stalled ≡ stalls) → CountsWrite {X = List ℕ} (Err fault) failures failed stalls stalled
page_writes faults.NotUnderstood page bytes before after failures failed stalls stalled reads well = well
page_writes faults.Read page bytes before after failures failed stalls stalled reads well = well
page_writes faults.Write page bytes before after failures failed stalls stalled reads well = absurd reads

-- the question for it was written whole
pub page_asked :
    (fault : FrameFault) (parts : Create) (page : ℕ) (bytes : List ℕ) (before after held holds : Option (List ℕ))
    → ReadsPage (Err fault) page bytes before after → Appends held holds (question_of parts) → Asks (Err fault) parts held holds
page_asked faults.NotUnderstood parts page bytes before after held holds reads asked = asked
page_asked faults.Read parts page bytes before after held holds reads asked = asked
page_asked faults.Write parts page bytes before after held holds reads asked = absurd reads

-- a platform, or why it is none
pub reads_platform : (result : Result PlatformLayout EndReason) (bytes : List ℕ) (before after : Option (List ℕ)) → length bytes ≡ 1336
    → IfOk result (λ p. IsPlatformFrame bytes p) → IfErr result (λ refusal. IsNoPlatform refusal bytes) → Consumes before after bytes
    → ReadsPlatform (Ok result) before after
reads_platform (Ok layout) bytes before after size is not consumed = (bytes, size, is, consumed)
reads_platform (Err refusal) bytes before after size is not consumed = (bytes, size, not, consumed)
