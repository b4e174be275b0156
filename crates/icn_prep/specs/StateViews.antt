-- What reading has come to, as the definitions see it.
use Rattle.icn_prep.specs.declared.source_reader.SourceReader.{SourceReader}
use Rattle.icn_prep.specs.SourceLines.{LineState}
use Rattle.icn_prep.specs.TextViews.{texts_of}

-- what reading has come to, as definitions see it
abbrev pub state_of : SourceReader → LineState
state_of r =
    record { names = r.names.items; lines = r.lines.items; texts = texts_of r.texts; literal = r.literal }
