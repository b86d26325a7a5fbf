-- Reading undoes writing, cited. Assumes nothing.
use Rattle.filewriter.proofs.Recovered.{reading_undoes_writing}
use Rattle.demands.specs.DayFile.{ReadsBack}

pub reads_back : ReadsBack
reads_back w wrote releases deadlines reading releases-after deadlines-after room more read =
    reading_undoes_writing wrote.promised wrote.accepted room more read
